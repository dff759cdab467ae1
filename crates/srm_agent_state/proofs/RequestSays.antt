-- What a request says of its names.
use Rattle.std.proofs.Common.{◌≡◌, ℕ, ◌<◌, true, false, List, [], ◌∷◌, ◌++◌, refl, ap, sym, ◌∙◌, subst}
use Rattle.std.specs.Prelude.{if◌then◌else◌, Some, None}
use Rattle.std.specs.List.{list_any, AllByRecursion}
use Rattle.std.proofs.lemmas.List.{append-nil}
use Rattle.srm_names.specs.declared.limits.TheConstants.{MEMBERS}
use Rattle.srm_names.specs.declared.stream.Stream.{Stream}
use Rattle.srm_names.specs.FullName.{FullName}
use Rattle.srm_names.specs.Names.{name_below, ascending, among}
use Rattle.srm_names.proofs.Snoc.{flat_map-snoc}
use Rattle.srm_codec.specs.declared.datagram.Datagram.{Datagram}
use Rattle.srm_codec.specs.declared.datagram.Datagram.TheVariants.{Data, Request, Repair, Session}
use Rattle.srm_codec.specs.Spelling.{asked_by, is_name, IsSpellable, names_in}
use Rattle.srm_store.specs.Held as stores
use Rattle.srm_entries.specs.Configs.{Config}
use Rattle.srm_entries.specs.declared.entry.Entry.{Entry}
use Rattle.srm_entries.specs.Entries.{accepted, drawops_in}
use Rattle.srm_distance.specs.Distance as defined
use Rattle.srm_entries.specs.Distances.{distance, distance_calls, calls_in, calls_of}
use Rattle.srm_entries.specs.Timers.{asker, asker_in, repaired, repairs_in}
use Rattle.srm_agent_state.specs.TimerCalls.{IsRequestOf}
use Rattle.srm_entries.proofs.Adding.{gains}
use Rattle.srm_agent_state.proofs.Missing.{gains_heard, unrepaired}
use Rattle.srm_agent_state.proofs.AskedNames.{asked_rise, asked_in_stream}
use Rattle.srm_agent_state.proofs.OneAnswered.{asked_if}

-- what a request says

pub asker_is : (e : Entry) (g : Datagram) (from : ℕ) (asked : List FullName) (n : FullName) → accepted e ≡ Some g → IsRequestOf from asked g → asker n e ≡ asked_if asked from n
asker_is e g from asked n h is = ap (asker_in n) h ∙ go g is
  where
    go : (g : Datagram) → IsRequestOf from asked g → asker_in n (Some g) ≡ asked_if asked from n
    go (Request sender name mask) is = ap (λ m. if among (asked_by name mask) n then Some m else None) is.0 ∙ ap (λ ns. if among ns n then Some from else None) is.1
    go (Data d) is = absurd is
    go (Repair sender d) is = absurd is
    go (Session sender sent farewell shown rows echoes) is = absurd is

pub request_gains : (e : Entry) (g : Datagram) (from : ℕ) (asked : List FullName) (n : FullName) → accepted e ≡ Some g → e.effects.drawn ≡ None → IsRequestOf from asked g → gains e n ≡ false
request_gains e g from asked n h d is = gains_heard e g n h d ∙ go g is
  where
    go : (g : Datagram) → IsRequestOf from asked g → list_any (stores.has_name n) (drawops_in (Some g)) ≡ false
    go (Request sender name mask) is = refl
    go (Data d) is = absurd is
    go (Repair sender d) is = absurd is
    go (Session sender sent farewell shown rows echoes) is = absurd is

pub request_repairs : (e : Entry) (g : Datagram) (from : ℕ) (asked : List FullName) (n : FullName) → accepted e ≡ Some g → e.effects.fixes ≡ [] → IsRequestOf from asked g → repaired n e ≡ false
request_repairs e g from asked n h none is = unrepaired e g n h none ∙ go g is
  where
    go : (g : Datagram) → IsRequestOf from asked g → repairs_in n (Some g) ≡ false
    go (Request sender name mask) is = refl
    go (Data d) is = absurd is
    go (Repair sender d) is = absurd is
    go (Session sender sent farewell shown rows echoes) is = absurd is

pub record RequestSays (from : ℕ) (asked : List FullName) (g : Datagram) : Type 0 where
  pub rising : ascending name_below asked ≡ true
  pub stream : Stream
  pub in_stream : AllByRecursion (λ (n : FullName). n.stream ≡ stream) asked
  pub names_are : names_in g ≡ asked
  pub member : from < MEMBERS
  pub spelled : AllByRecursion is_name asked
  pub far : (me now : ℕ) → calls_of me now (Some g) ≡ []

pub request_says : (from : ℕ) (asked : List FullName) (g : Datagram) → IsRequestOf from asked g → IsSpellable g → RequestSays from asked g
request_says from asked (Request sender name mask) is s = record {
  rising = ap (ascending name_below) (sym is.1) ∙ asked_rise name mask;
  stream = name.stream;
  in_stream = subst (AllByRecursion (λ (n : FullName). n.stream ≡ name.stream)) is.1 (asked_in_stream name mask);
  names_are = is.1;
  member = subst (λ m. m < MEMBERS) is.0 s.0;
  spelled = subst (AllByRecursion is_name) is.1 s.2;
  far = λ me now. refl;
}
request_says from asked (Data d) is s = absurd is
request_says from asked (Repair sender d) is s = absurd is
request_says from asked (Session sender sent farewell shown rows echoes) is s = absurd is

pub same_distance : (c : Config) (past : List Entry) (e : Entry) (g : Datagram) (m : ℕ) → accepted e ≡ Some g → calls_of c.me e.moment (Some g) ≡ [] → distance c (past ++ e ∷ []) m ≡ distance c past m
same_distance c past e g m h none =
    ap (λ cs. defined.distance c.least_distance cs c.me m) (flat_map-snoc (calls_in c.me) past e ∙ ap (λ o. distance_calls c.me past ++ calls_of c.me e.moment o) h ∙ ap (λ cs. distance_calls c.me past ++ cs) none ∙ append-nil (distance_calls c.me past))
