-- What a session message that was sent says, and what whoever hears it then knows.
use Rattle.std.proofs.Common.{◌≡◌, ℕ, ◌≤◌, max, Bool, true, false, ◌&&◌, List, [], ◌∷◌, ◌++◌, map, refl, ap, sym, ◌∙◌, subst, arith}
use Rattle.std.specs.Prelude.{Option, Some, None, option_to_list, option_map, find, nat_le, nat_lt, if◌then◌else◌}
use Rattle.std.specs.List.{flat_map, AllByRecursion}
use Rattle.std.proofs.lemmas.Bool.Decides.{nat_tests}
use Rattle.srm_names.specs.declared.page.Page.{Page}
use Rattle.srm_names.specs.declared.stream.Stream.{Stream}
use Rattle.srm_names.specs.declared.drawop.Drawop.{Drawop}
use Rattle.srm_names.specs.declared.echo.Echo.{Echo}
use Rattle.srm_names.specs.FullName.{FullName}
use Rattle.srm_names.specs.Histories.{steps, greatest}
use Rattle.srm_names.specs.Names.{same_page, same_stream, stream_on}
use Rattle.srm_names.proofs.Lists.{Has, Has-back, find-Has}
use Rattle.srm_names.proofs.Same.{same_page-itself}
use Rattle.srm_codec.specs.declared.datagram.Datagram.TheVariants.{Session}
use Rattle.srm_store.specs.Finals.{number_in_rows}
use Rattle.srm_entries.specs.Configs.{Config}
use Rattle.srm_entries.specs.declared.entry.Entry.{Entry}
use Rattle.srm_store.specs.Held.{number_in}
use Rattle.srm_entries.specs.Entries.{accepted, ticked, shown, known, evidence_by, names_heard}
use Rattle.srm_entries.specs.Sessions.{if_positive, SessionMessageRight, session_message_due}
use Rattle.srm_entries.specs.Runs.{EntryRight}
use Rattle.srm_entries.proofs.Adding.{known-snoc}
use Rattle.srm_entries.proofs.Showing.{shown_quiet}
use Rattle.srm_entries.proofs.Parting.{ends, ending_ticks, tick_draws_nothing}
use Rattle.srm_entries.proofs.Responding.{tick_hears_nothing}
use Rattle.srm_entries.proofs.Knowing.{known_at_least, known_inside}

-- what a session_message says
pub record Says (c : Config) (before : List Entry) (e : Entry) (page : Page) (rows : List FullName) : Type 0 where
  pub at_tick : ticked e ≡ true
  pub on_page : page ≡ shown before
  pub right : SessionMessageRight c before e.moment false rows

pub message_sent : (c : Config) (made : ℕ) (before : List Entry) (e : Entry) (sender sent : ℕ) (page : Page) (rows : List FullName) (echoes : List Echo)
    → EntryRight c made (record { before = before; this = e }) → Has (Session sender sent false page rows echoes) e.effects.outs → Says c before e page rows
message_sent c made before e sender sent page rows echoes r h =
    let (f, due, is) = ends c before e (Session sender sent false page rows echoes) (session_message_due c made before e) r.session h refl in
    record { at_tick = ending_ticks c made before e f due; on_page = is.3; right = is.5 }

-- a tick shows nothing new

pub known_after_tick : (c : Config) (made : ℕ) (before : List Entry) (e : Entry) (s : Stream) → EntryRight c made (record { before = before; this = e }) → ticked e ≡ true
    → known (before ++ e ∷ []) s ≡ known before s
known_after_tick c made before e s r t =
    let none : evidence_by e ≡ [] = shown_quiet e (tick_hears_nothing e t, tick_draws_nothing c made before e r t) in
    known-snoc before e s ∙ ap (max (known before s)) (ap (λ ns. greatest (flat_map (number_in s) (ns ++ []))) none) ∙ none_more (known before s)
  where
    none_more : (k : ℕ) → max k 0 ≡ k
    none_more k = omega arith

-- whoever hears a session_message knows at least as much

row_of_number : (rows : List FullName) (s : Stream) (k : ℕ) → number_in_rows rows s ≡ Some k → (n : FullName) × Has n rows × (same_stream s n.stream ≡ true) × (n.number ≡ k)
row_of_number rows s k e = go (find (λ (n : FullName). same_stream s n.stream) rows) refl e
  where
    go : (o : Option FullName) → find (λ (n : FullName). same_stream s n.stream) rows ≡ o → option_map (λ (n : FullName). n.number) o ≡ Some k
        → (n : FullName) × Has n rows × (same_stream s n.stream ≡ true) × (n.number ≡ k)
    go None q f = absurd (cc)
    go (Some n) q f = let found = find-Has (λ (n : FullName). same_stream s n.stream) rows n q in (n, found.0, found.1, cc)

-- the session_message names each stream of the page that its sender knew of
row_said : (c : Config) (before : List Entry) (e : Entry) (source : ℕ) (page : Page) (rows : List FullName) → Says c before e page rows
    → nat_lt source c.members ≡ true → 1 ≤ known before (stream_on source page) → number_in_rows rows (stream_on source page) ≡ Some (known before (stream_on source page))
row_said c before e source page rows r m k =
    r.right.exact (stream_on source page)
    ∙ ap (λ (b : Bool). if b && nat_lt source c.members then if_positive (known before (stream_on source page)) else None) (subst (λ p. same_page page p ≡ true) r.on_page (same_page-itself page))
    ∙ ap (λ b. if b then if_positive (known before (stream_on source page)) else None) m
    ∙ positive (known before (stream_on source page)) k
  where
    positive : (n : ℕ) → 1 ≤ n → if_positive n ≡ Some n
    positive n l = ap (λ b. if b then Some n else None) (test n l)
      where
        test : (n : ℕ) → 1 ≤ n → nat_lt 0 n ≡ true
        test n l = grind (arith, nat_tests)

pub hearer_knows : (c : Config) (made : ℕ) (before : List Entry) (e : Entry) (source sender sent : ℕ) (page : Page) (rows : List FullName) (echoes : List Echo) (other : List Entry) (h : Entry)
    → nat_le c.members c.me ≡ false → AllByRecursion (EntryRight c made) (steps before) → Says c before e page rows
    → Has h other → accepted h ≡ Some (Session sender sent false page rows echoes) → known before (stream_on source page) ≤ known other (stream_on source page)
hearer_knows c made before e source sender sent page rows echoes other h inside all r k q = go (nat_le c.members source) refl
  where
    go : (b : Bool) → nat_le c.members source ≡ b → known before (stream_on source page) ≤ known other (stream_on source page)
    go true o = let none : known before (stream_on source page) ≡ 0 = known_inside c made before (stream_on source page) inside o all in least (known before (stream_on source page)) (known other (stream_on source page)) none
      where
        least : (a b : ℕ) → a ≡ 0 → a ≤ b
        least a b e = omega arith
    go false o = cases (nat_le 1 (known before (stream_on source page))) refl
      where
        inside_too : nat_lt source c.members ≡ true
        inside_too = test source c.members o
          where
            test : (a b : ℕ) → nat_le b a ≡ false → nat_lt a b ≡ true
            test a b e = grind (arith, nat_tests)

        cases : (b : Bool) → nat_le 1 (known before (stream_on source page)) ≡ b → known before (stream_on source page) ≤ known other (stream_on source page)
        cases false z = small (known before (stream_on source page)) (known other (stream_on source page)) z
          where
            small : (a b : ℕ) → nat_le 1 a ≡ false → a ≤ b
            small a b e = grind (arith, nat_tests)
        cases true z =
            let (n, has, same, is) = row_of_number rows (stream_on source page) (known before (stream_on source page))
            (row_said c before e source page rows r inside_too (some (known before (stream_on source page)) z)) in
            subst (λ k. k ≤ known other (stream_on source page)) is
            (known_at_least other h n (stream_on source page) k (named n has) same)
          where
            some : (a : ℕ) → nat_le 1 a ≡ true → 1 ≤ a
            some a e = grind (arith, nat_tests)

            named : (n : FullName) → Has n rows → Has n (evidence_by h)
            named n has = Has-back n (map (λ (d : Drawop). d.name) (option_to_list h.effects.drawn)) (names_heard (accepted h)) (subst (λ o. Has n (names_heard o)) (sym q) has)
