-- A run that is handed the calls that act in another, with noise between, does the same. What comes to a gone member counts as noise.
use Rattle.std.proofs.Common.{◌≡◌, ℕ, ◌<◌, Bool, true, false, List, [], ◌∷◌, ◌++◌, refl, ap, sym, ◌∙◌, subst, inl, inr}
use Rattle.std.specs.Prelude.{◌⊎◌, nat_le}
use Rattle.std.specs.List.{AllByRecursion}
use Rattle.srm_names.specs.Histories.{steps}
use Rattle.srm_entries.specs.Configs.{Config}
use Rattle.srm_entries.specs.declared.entry.Entry.{Entry}
use Rattle.srm_entries.specs.declared.entry.Input.{Input}
use Rattle.srm_entries.specs.declared.entry.Input.TheVariants.{Drew, Heard, Noise, Ticked, Showed, AskedLeave, Gave, Took}
use Rattle.srm_entries.specs.declared.entry.Verdict.{Verdict}
use Rattle.srm_entries.specs.Entries.{state, is_gone}
use Rattle.srm_entries.specs.Verdicts.{VerdictRight}
use Rattle.srm_entries.specs.Bucket.{Going, GoesAsCharged, entries_of}
use Rattle.srm_entries.specs.Runs.{EntryRight}
use Rattle.srm_entries.proofs.Marking.{entries-snoc}
use Rattle.srm_world.specs.WaitWords.{AreByWords}
use Rattle.srm_replays.specs.Calls.{acts}
use Rattle.srm_replays.specs.Law.{call_of, acting, is_noise, IsRunByWords}
use Rattle.srm_replays.proofs.Resting.{GoesOn, still}
use Rattle.srm_replays.proofs.Abreast.{Abreast, abreast_start, skips, skips_other}
use Rattle.srm_replays.proofs.Replaying.{AllGoOn, all_go_on, noise_rests, kept, dropped, Met, words_after, meet, met_then, outside}

abbrev pub is_heard : Input → Bool
is_heard (Heard g) = true
is_heard _ = false

-- The second entry is of the call of the first, or the member is gone and the first is of a datagram.
abbrev pub Takes : Entry → List Entry → Entry → Type 0
Takes e before f = (call_of f ≡ call_of e) ⊎ ((is_gone (state before) ≡ true) × (is_heard e.input ≡ true))

-- Behind these entries a run goes on so: it takes the calls of those entries, in order, with noise between.
abbrev pub Hands : List Entry → List Entry → List Entry → Type 0
Hands [] before [] = Unit {0}
Hands (e ∷ es) before [] = ⊥
Hands [] before (f ∷ fs) = (is_noise f.input ≡ true) × Hands [] (before ++ f ∷ []) fs
Hands (e ∷ es) before (f ∷ fs) = ((is_noise f.input ≡ true) × Hands (e ∷ es) (before ++ f ∷ []) fs) ⊎ (Takes e before f × Hands es (before ++ f ∷ []) fs)

here_who_hears : (c : Config) (us : List Entry) (v : Verdict) (i : Input) → is_heard i ≡ true → VerdictRight c us i v → is_gone (state us) ≡ false
here_who_hears c us v (Heard g) h right = right.0
here_who_hears c us v (Drew page body) h right = absurd (cc)
here_who_hears c us v Noise h right = absurd (cc)
here_who_hears c us v Ticked h right = absurd (cc)
here_who_hears c us v (Showed page) h right = absurd (cc)
here_who_hears c us v AskedLeave h right = absurd (cc)
here_who_hears c us v (Gave slot) h right = absurd (cc)
here_who_hears c us v (Took slot) h right = absurd (cc)

only_noise : (fs before : List Entry) → Hands [] before fs → acting fs ≡ []
only_noise [] before h = refl
only_noise (f ∷ fs) before h = dropped acts f fs (noise_rests f.verdict f.input f.effects h.0) ∙ only_noise fs (before ++ f ∷ []) h.1

-- behind an entry more
behind : (es fs : List Entry) (vs : List Going) (y : Going) → Hands es (entries_of vs ++ y.entry ∷ []) fs → Hands es (entries_of (vs ++ y ∷ [])) fs
behind es fs vs y h = subst (λ before. Hands es before fs) (sym (entries-snoc vs y)) h

module _ {W : Type 0} (next_word : W → ℕ × W) (c : Config) (made : ℕ) (me : nat_le c.members c.me ≡ false) where
  abbrev Follows : List Going → List Going → Type 0
  Follows xs ys = (us vs : List Going) (from to other : W) → Abreast c made us vs → AllGoOn c made us xs → AllGoOn c made vs ys → AreByWords next_word c from (entries_of xs) to
      → AreByWords next_word c from (entries_of ys) other → Hands (acting (entries_of xs)) (entries_of vs) (entries_of ys) → acting (entries_of ys) ≡ acting (entries_of xs)

  past_noise : (x : Going) (xs ys : List Going) → acts x.entry ≡ true → ((zs : List Going) → Follows xs zs) → Follows (x ∷ xs) ys
  past_noise x xs [] acts_x follow us vs from to other a on also words more hands = absurd (subst (λ es. Hands es (entries_of vs) []) (kept acts x.entry (entries_of xs) acts_x) hands)
  past_noise x xs (y ∷ ys) acts_x follow us vs from to other a on also words more hands =
      go (subst (λ es. Hands es (entries_of vs) (y.entry ∷ entries_of ys)) (kept acts x.entry (entries_of xs) acts_x) hands) (λ b k w h. past_noise x xs ys acts_x follow us (vs ++ y ∷ []) from to other b on k words w h)
    where
      go : (((is_noise y.entry.input ≡ true) × Hands (x.entry ∷ acting (entries_of xs)) (entries_of vs ++ y.entry ∷ []) (entries_of ys))
          ⊎ (Takes x.entry (entries_of vs) y.entry × Hands (acting (entries_of xs)) (entries_of vs ++ y.entry ∷ []) (entries_of ys)))
          → (Abreast c made us (vs ++ y ∷ []) → AllGoOn c made (vs ++ y ∷ []) ys → AreByWords next_word c from (entries_of ys) other
          → Hands (acting (entries_of (x ∷ xs))) (entries_of (vs ++ y ∷ [])) (entries_of ys) → acting (entries_of ys) ≡ acting (entries_of (x ∷ xs)))
          → acting (entries_of (y ∷ ys)) ≡ acting (entries_of (x ∷ xs))
      go (inl (q, h)) later =
          let idle : acts y.entry ≡ false = noise_rests y.entry.verdict y.entry.input y.entry.effects q in
          dropped acts y.entry (entries_of ys) idle
          ∙ later (skips_other c made us vs y a also.0 idle) also.1 (words_after next_word c made me from other y ys (still c made vs y also.0 idle).arms more)
          (subst (λ es. Hands es (entries_of (vs ++ y ∷ [])) (entries_of ys)) (sym (kept acts x.entry (entries_of xs) acts_x)) (behind (x.entry ∷ acting (entries_of xs)) (entries_of ys) vs y h))
      go (inr (inl call, h)) later =
          let met = meet next_word c made me us vs from to other x y xs ys acts_x call a on.0 also words more in
          met_then next_word c made me us vs to other x y xs ys acts_x met
          (follow ys (us ++ x ∷ []) (vs ++ x ∷ []) met.mid to other met.abreast on.1 met.also met.words met.more
          (subst (λ (z : Going). Hands (acting (entries_of xs)) (entries_of (vs ++ z ∷ [])) (entries_of ys)) (sym met.same) (behind (acting (entries_of xs)) (entries_of ys) vs y h)))
      go (inr (inr (gone, heard), h)) later =
          let here : is_gone (state (entries_of us)) ≡ false = here_who_hears c (entries_of us) x.entry.verdict x.entry.input heard on.0.right.verdict in
          let same : is_gone (state (entries_of us)) ≡ is_gone (state (entries_of vs)) = ap is_gone a.alike.states in
          absurd (cc)

  follows : (xs ys : List Going) → Follows xs ys
  follows [] ys us vs from to other a on also words more hands = only_noise (entries_of ys) (entries_of vs) hands
  follows (x ∷ xs) ys us vs from to other a on also words more hands = go (acts x.entry) refl (λ zs. follows xs zs)
    where
      go : (b : Bool) → acts x.entry ≡ b → ((zs : List Going) → Follows xs zs) → acting (entries_of ys) ≡ acting (entries_of (x ∷ xs))
      go true q follow = past_noise x xs ys q follow us vs from to other a on also words more hands
      go false q follow =
          let out : acting (entries_of (x ∷ xs)) ≡ acting (entries_of xs) = dropped acts x.entry (entries_of xs) q in
          follow ys (us ++ x ∷ []) vs from to other (skips c made us vs x a on.0 q) on.1 also (words_after next_word c made me from to x xs (still c made us x on.0 q).arms words) more
          (subst (λ es. Hands es (entries_of vs) (entries_of ys)) out hands)
          ∙ sym out

pub handed : {W : Type 0} (next_word : W → ℕ × W) (c : Config) (made : ℕ) (from : W) (es fs : List Entry) → c.me < c.members → IsRunByWords next_word c made from es → IsRunByWords next_word c made from fs → Hands (acting es) [] fs → acting fs ≡ acting es
handed next_word c made from es fs inside one two hands =
    let me : nat_le c.members c.me ≡ false = outside c.members c.me inside in
    let (gs, q, all, law) = one.run.bucket in
    let (hs, r, also, other) = two.run.bucket in
    let on : AllGoOn c made [] gs = all_go_on c made [] gs (subst (λ ys. AllByRecursion (EntryRight c made) (steps ys)) (sym q) one.run.each) all law in
    let on_other : AllGoOn c made [] hs = all_go_on c made [] hs (subst (λ ys. AllByRecursion (EntryRight c made) (steps ys)) (sym r) two.run.each) also other in
    ap acting (sym r)
    ∙ follows next_word c made me gs hs [] [] from one.to two.to (abreast_start c made) on on_other (subst (λ ys. AreByWords next_word c from ys one.to) (sym q) one.words) (subst (λ ys. AreByWords next_word c from ys two.to) (sym r) two.words)
    (subst (λ ys. Hands (acting ys) [] (entries_of hs)) (sym q) (subst (λ ys. Hands (acting es) [] ys) (sym r) hands))
    ∙ ap acting q
