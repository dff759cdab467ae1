-- Producers whose threads are joined one after another.
use Rattle.std.proofs.Common.{◌≡◌, ℕ, Bool, true, ◌+◌, ◌≤◌, List, [], ◌∷◌, ◌++◌, length, map, ap, sym, ◌∙◌, subst, append_assoc, arith, add-one}
use Rattle.srm_pages.specs.Ends.{PenView}
use Rattle.srm_member.specs.declared.pens.PenThread.{PenThread}
use Rattle.srm_member.specs.Strokes.{PenAndBodies, pen_and_bodies, PenSent, PensDrew, JoinsPens}

drew-snoc : (all : Bool) (ss : List PenAndBodies) (ps : List PenView) (s : PenAndBodies) (p : PenView) → PensDrew all ss ps → PenSent all s.1 s.0 p → PensDrew all (ss ++ s ∷ []) (ps ++ p ∷ [])
drew-snoc all [] [] s p h k = (k, tt)
drew-snoc all [] (q ∷ ps) s p h k = absurd h
drew-snoc all (r ∷ ss) [] s p h k = absurd h
drew-snoc all (r ∷ ss) (q ∷ ps) s p h k = (h.0, drew-snoc all ss ps s p h.1 k)

-- what holds of all holds where less is said
sent_less : (all less : Bool) (bodies : List (List ℕ)) (old new : PenView) → (less ≡ true → all ≡ true) → PenSent all bodies old new → PenSent less bodies old new
sent_less all less bodies old new so (left, none, sent) = (left, (λ yes. none (so yes)), sent)

drew_less : (all less : Bool) (ss : List PenAndBodies) (ps : List PenView) → (less ≡ true → all ≡ true) → PensDrew all ss ps → PensDrew less ss ps
drew_less all less [] [] so h = tt
drew_less all less [] (p ∷ ps) so h = absurd h
drew_less all less (s ∷ ss) [] so h = absurd h
drew_less all less (s ∷ ss) (p ∷ ps) so h = (sent_less all less s.1 s.0 p so h.0, drew_less all less ss ps so h.1)

pub joins_more : (all one now : Bool) (started : List PenAndBodies) (t : PenThread) (left rest : List PenThread) (inked grown : List PenView) (pen : PenView) → JoinsPens all started left inked → left ≡ t ∷ rest → PenSent one (pen_and_bodies t).1 (pen_and_bodies t).0 pen → grown ≡ inked ++ pen ∷ []
    → (now ≡ true → (all ≡ true) × (one ≡ true)) → JoinsPens now started rest grown
joins_more all one now started t left rest inked grown pen h is sent grew both = record {
  joined = h.joined ++ pen_and_bodies t ∷ [];
  split = h.split ∙ ap (λ ts. h.joined ++ map pen_and_bodies ts) is ∙ sym (append_assoc h.joined (pen_and_bodies t ∷ []) (map pen_and_bodies rest));
  each =
      subst (PensDrew now (h.joined ++ pen_and_bodies t ∷ [])) (sym grew)
      (drew-snoc now h.joined inked (pen_and_bodies t) pen (drew_less all now h.joined inked (λ yes. (both yes).0) h.each) (sent_less one now (pen_and_bodies t).1 (pen_and_bodies t).0 pen (λ yes. (both yes).1) sent));
}

one_less : (left rest : List PenThread) (t : PenThread) → left ≡ t ∷ rest → length left ≡ length rest + 1
one_less left rest t is = ap length is ∙ sym (add-one (length rest))

pub count_less : (left rest : List PenThread) (t : PenThread) (n m : ℕ) → left ≡ t ∷ rest → length left + n ≡ m → length rest + (n + 1) ≡ m
count_less left rest t n m is h = omega (arith, one_less left rest t is)

pub room_less : (left rest : List PenThread) (t : PenThread) (len new room more : ℕ) → left ≡ t ∷ rest → len + length left ≤ room → (new ≡ len + 1) × (room ≤ more) → new + length rest ≤ more
room_less left rest t len new room more is h grew = omega (arith, one_less left rest t is, grew.0, grew.1)
