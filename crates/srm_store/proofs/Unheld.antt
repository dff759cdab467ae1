-- One more name in the list of those that aren't held.
use Rattle.std.proofs.Common.{◌≡◌, ℕ, ◌+◌, List, [], ◌∷◌, ◌++◌, Option, Some, None, Bool, true, false, refl, sym, ap, ◌∙◌, arith, append_assoc}
use Rattle.std.specs.Prelude.{is_some, map, not, if◌then◌else◌, option_to_list}
use Rattle.std.proofs.lemmas.List.{append-nil, map-append}
use Rattle.std.proofs.lemmas.List.Elements.{filter-append}
use Rattle.srm_names.specs.declared.stream.Stream.{Stream}
use Rattle.srm_names.specs.FullName.{FullName}
use Rattle.srm_names.specs.Histories.{count_up}
use Rattle.srm_names.specs.Names.{named}
use Rattle.srm_names.proofs.Snoc.{count_up-more}
use Rattle.srm_store.specs.Places.{place_at}
use Rattle.srm_store.specs.Held.{names_after}
use Rattle.srm_store.specs.StreamPlaces.{StreamContent, unheld_in_stream}

names_after-more : (s : Stream) (after n : ℕ) → names_after s after (n + 1) ≡ names_after s after n ++ named s (after + n + 1) ∷ []
names_after-more s after n =
    let e : after + 1 + n ≡ after + n + 1 = omega arith in
    ap (map (named s)) (count_up-more (after + 1) n)
    ∙ map-append (named s) (count_up (after + 1) n) ((after + 1 + n) ∷ [])
    ∙ ap (λ k. names_after s after n ++ named s k ∷ []) e

one : (content : StreamContent) (s : Stream) (k : ℕ) → unheld_in_stream content (named s k ∷ []) ≡ option_to_list (if is_some (place_at content.places k) then None else Some (named s k))
one content s k = go (is_some (place_at content.places k))
  where
    go : (b : Bool) → (if not b then named s k ∷ [] else []) ≡ option_to_list (if b then None else Some (named s k))
    go true = refl
    go false = refl

pub unheld_more : (content : StreamContent) (s : Stream) (after n : ℕ) → unheld_in_stream content (names_after s after (n + 1)) ≡ unheld_in_stream content (names_after s after n) ++ option_to_list (if is_some (place_at content.places (after + n + 1)) then None else Some (named s (after + n + 1)))
unheld_more content s after n =
    ap (unheld_in_stream content) (names_after-more s after n)
    ∙ filter-append _ (names_after s after n) (named s (after + n + 1) ∷ [])
    ∙ ap (λ ns. unheld_in_stream content (names_after s after n) ++ ns) (one content s (after + n + 1))

module _ (content : StreamContent) (s : Stream) (after n : ℕ) (start before : List FullName) (h : before ≡ start ++ unheld_in_stream content (names_after s after n)) where
  pub unheld_none : None ≡ (if is_some (place_at content.places (after + n + 1)) then None else Some (named s (after + n + 1))) → before ≡ start ++ unheld_in_stream content (names_after s after (n + 1))
  unheld_none e = h ∙ ap (λ ns. start ++ ns) (sym (unheld_more content s after n ∙ ap (λ (o : Option FullName). unheld_in_stream content (names_after s after n) ++ option_to_list o) (sym e) ∙ append-nil (unheld_in_stream content (names_after s after n))))

  pub unheld_some : (name : FullName) (later : List FullName) → Some name ≡ (if is_some (place_at content.places (after + n + 1)) then None else Some (named s (after + n + 1))) → later ≡ before ++ name ∷ [] → later ≡ start ++ unheld_in_stream content (names_after s after (n + 1))
  unheld_some name later e pushed =
      pushed ∙ ap (λ ns. ns ++ name ∷ []) h ∙ append_assoc start (unheld_in_stream content (names_after s after n)) (name ∷ [])
      ∙ ap (λ ns. start ++ ns) (sym (unheld_more content s after n ∙ ap (λ (o : Option FullName). unheld_in_stream content (names_after s after n) ++ option_to_list o) (sym e)))
