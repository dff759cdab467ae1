-- Finding the datagrams that were sent by their bytes.
use Rattle.std.proofs.Common.{◌≡◌, ℕ, ◌+◌, ◌≤◌, ◌<◌, Bool, true, false, ◌||◌, List, [], ◌∷◌, ◌++◌, length, take, get_or, refl, ap, sym, ◌∙◌, subst, inl, inr, append_assoc, lit<}
use Rattle.std.specs.Prelude.{◌⊎◌, map, not, MatchBool, Contains}
use Rattle.std.specs.List.{list_any, AllByRecursion}
use Rattle.std.specs.Str.{bytes_eq}
use Rattle.std.specs.Cmp.Lexicographic.{bytes_decides}
use Rattle.std.specs.List.Sorted.{IsPermutation}
use Rattle.std.proofs.lemmas.Bool.{or_right}
use Rattle.std.proofs.lemmas.List.Sorted.{list_any-IsPermutation}
use Rattle.std.proofs.lemmas.List.{append-nil, take_more, take_all}
use Rattle.std.proofs.lemmas.Option.{slice_get_read}
use Rattle.srm_names.proofs.Lists.{Has, Has-append, Has-front, Has-back, Has-contained, Has-Contains, by_place}
use Rattle.srm_codec.specs.declared.datagram.Datagram.{Datagram}
use Rattle.srm_codec.specs.Spelling.{IsSpellable}
use Rattle.srm_codec.proofs.JudgingLaws as judging
use Rattle.srm_audit.specs.declared.spellings.TheConstants.{ANY_SESSION}
use Rattle.srm_audit.specs.Spellings.{spelling_of, is_spelling, Knows, Learns}

pub list_any-map : {X Y : Type 0} (p : Y → Bool) (f : X → Y) (xs : List X) → list_any p (map f xs) ≡ list_any (λ x. p (f x)) xs
list_any-map p f [] = refl
list_any-map p f (x ∷ xs) = ap (λ b. p (f x) || b) (list_any-map p f xs)

-- the texts with these bytes more
pub record Gains (bytes : List ℕ) (old new : List (List ℕ)) : Type 0 where
  pub each : (text : List ℕ) → is_spelling new text ≡ (bytes_eq text bytes || is_spelling old text)

-- a key was put into a set, or one with its bytes was there
pub text_gained : {X : Type 0} (items : X → List ℕ) (old new : List X) (key : X) (added : Bool) → MatchBool added (IsPermutation (key ∷ old) new) (new ≡ old)
    → added ≡ not (list_any (λ k. bytes_eq (items key) (items k)) old) → (text : List ℕ) → list_any (λ k. bytes_eq text (items k)) new ≡ (bytes_eq text (items key) || list_any (λ k. bytes_eq text (items k)) old)
text_gained items old new key true same is text = sym (list_any-IsPermutation (λ k. bytes_eq text (items k)) (key ∷ old) new same)
text_gained items old new key false same is text =
    ap (list_any (λ k. bytes_eq text (items k))) same ∙ which (bytes_eq text (items key)) refl (list_any (λ k. bytes_eq (items key) (items k)) old) refl
  where
    had : (b : Bool) → false ≡ not b → b ≡ true
    had true e = refl
    had false e = absurd (cc)

    which : (b : Bool) → bytes_eq text (items key) ≡ b → (c : Bool) → list_any (λ k. bytes_eq (items key) (items k)) old ≡ c → list_any (λ k. bytes_eq text (items k)) old ≡ (b || list_any (λ k. bytes_eq text (items k)) old)
    which false e c f = refl
    which true e c f = ap (λ bytes. list_any (λ k. bytes_eq bytes (items k)) old) ((bytes_decides text (items key)).0 e) ∙ had (list_any (λ k. bytes_eq (items key) (items k)) old) is

pub gains_text : {X : Type 0} (items : X → List ℕ) (old new : List X) (key : X) (added : Bool) (bytes : List ℕ) → items key ≡ bytes → MatchBool added (IsPermutation (key ∷ old) new) (new ≡ old)
    → added ≡ not (list_any (λ k. bytes_eq (items key) (items k)) old) → Gains bytes (map items old) (map items new)
gains_text items old new key added bytes same keys is = record {
  each = λ text. list_any-map (bytes_eq text) items new ∙ text_gained items old new key added keys is text ∙ ap (λ b. bytes_eq text (items key) || b) (sym (list_any-map (bytes_eq text) items old))
      ∙ ap (λ bs. bytes_eq text bs || list_any (bytes_eq text) (map items old)) same;
}

-- whether a set has the bytes
pub text_found : {X : Type 0} (items : X → List ℕ) (keys : List X) (bytes text : List ℕ) (found : Bool) → found ≡ list_any (λ k. bytes_eq text (items k)) keys → text ≡ bytes → found ≡ is_spelling (map items keys) bytes
text_found items keys bytes text found is same = is ∙ ap (λ bs. list_any (λ k. bytes_eq bs (items k)) keys) same ∙ sym (list_any-map (bytes_eq bytes) items keys)

learns_one : (g : Datagram) (old new : List (List ℕ)) → IsSpellable g → Gains (spelling_of g) old new → (gs : List Datagram) → Knows gs old → Knows (gs ++ g ∷ []) new
learns_one g old new fits gains gs knows = record {
  each = λ h is. (to h is, from h is);
}
  where
    sent_is : (h : Datagram) → is_spelling new (spelling_of h) ≡ (bytes_eq (spelling_of h) (spelling_of g) || is_spelling old (spelling_of h))
    sent_is h = gains.each (spelling_of h)

    same : (h : Datagram) → IsSpellable h → bytes_eq (spelling_of h) (spelling_of g) ≡ true → h ≡ g
    same h is e = (judging.unique ANY_SESSION ANY_SESSION (spelling_of h) h g (lit< tt) (lit< tt) (record { spellable = is; text = refl })
        (record { spellable = fits; text = (bytes_decides (spelling_of h) (spelling_of g)).0 e })).1

    to : (h : Datagram) → IsSpellable h → is_spelling new (spelling_of h) ≡ true → Contains (gs ++ g ∷ []) h
    to h is e = which (bytes_eq (spelling_of h) (spelling_of g)) refl (sym (sent_is h) ∙ e)
      where
        which : (b : Bool) → bytes_eq (spelling_of h) (spelling_of g) ≡ b → (b || is_spelling old (spelling_of h)) ≡ true → Contains (gs ++ g ∷ []) h
        which true q e = Has-Contains h (gs ++ g ∷ []) (Has-back h gs (g ∷ []) (inl (same h is q)))
        which false q e = Has-Contains h (gs ++ g ∷ []) (Has-front h gs (g ∷ []) (Has-contained h gs ((knows.each h is).0 e)))

    from : (h : Datagram) → IsSpellable h → Contains (gs ++ g ∷ []) h → is_spelling new (spelling_of h) ≡ true
    from h is there = sent_is h ∙ which (Has-append h gs (g ∷ []) (Has-contained h (gs ++ g ∷ []) there))
      where
        which : Has h gs ⊎ Has h (g ∷ []) → (bytes_eq (spelling_of h) (spelling_of g) || is_spelling old (spelling_of h)) ≡ true
        which (inl k) = or_right (bytes_eq (spelling_of h) (spelling_of g)) (is_spelling old (spelling_of h)) ((knows.each h is).1 (Has-Contains h gs k))
        which (inr (inl e)) = ap (λ b. b || is_spelling old (spelling_of h)) ((bytes_decides (spelling_of h) (spelling_of g)).1 (ap spelling_of e))
        which (inr (inr k)) = absurd k

pub learns : (g : Datagram) (old new : List (List ℕ)) → IsSpellable g → Gains (spelling_of g) old new → Learns (g ∷ []) old new
learns g old new fits gains = record { each = learns_one g old new fits gains }

pub learns_nothing : (t : List (List ℕ)) → Learns [] t t
learns_nothing t = record { each = λ gs knows. subst (λ hs. Knows hs t) (sym (append-nil gs)) knows }

pub learns_more : (gs : List Datagram) (i : ℕ) (g : Datagram) (old mid new : List (List ℕ)) → i < length gs → g ≡ get_or gs i g → Learns (take i gs) old mid → Learns (g ∷ []) mid new → Learns (take (i + 1) gs) old new
learns_more gs i g old mid new l is one two = record {
  each = λ before knows. subst (λ hs. Knows hs new) (append_assoc before (take i gs) (g ∷ []) ∙ ap (λ hs. before ++ hs) (ap (λ x. take i gs ++ x ∷ []) is ∙ sym (take_more gs i g l)))
      (two.each (before ++ take i gs) (one.each before knows));
}

pub learns_all : (gs : List Datagram) (i : ℕ) (old new : List (List ℕ)) → length gs ≤ i → Learns (take i gs) old new → Learns gs old new
learns_all gs i old new l h = subst (λ hs. Learns hs old new) (take_all i gs l) h

pub at_index : {X : Type 0} (P : X → Type 0) (xs : List X) (i : ℕ) (x : X) → i < length xs → x ≡ get_or xs i x → AllByRecursion P xs → P x
at_index P xs i x l is all = by_place P xs i x all (slice_get_read xs (length xs) i x refl l is)
