-- What a member's record got when it ended.
use Rattle.std.proofs.Common.{◌≡◌, ℕ, ◌+◌, ◌<◌, get_or, List, [], ◌∷◌, ◌++◌, length, map, take, ap, sym, ◌∙◌, subst, arith}
use Rattle.std.specs.Prelude.{Option, Vec}
use Rattle.std.specs.Global.{Global}
use Rattle.std.proofs.lemmas.List.{map-append, length-map, take_more, get_or-map}
use denote.Ref.{Bor}
use Rattle.srm_names.specs.declared.page_msg.PageMsg.{PageMsg}
use Rattle.srm_entries.specs.declared.entry.Entry.{Entry}
use Rattle.srm_world.specs.RecordStarts.{RecordStart}
use Rattle.srm_record.specs.Begun.{IsRecorded}
use Rattle.srm_record.specs.Takes.{lent}
use Rattle.srm_node.specs.declared.working.Worked.{Worked}
use Rattle.srm_member.specs.TakenText.{lists_of}

-- one more of a list's values, mapped
take_one_more : {V W : Type 0} (f : V → W) (xs : List V) (i : ℕ) (v : V) → v ≡ get_or xs i v → i < length xs → take (i + 1) (map f xs) ≡ take i (map f xs) ++ f v ∷ []
take_one_more f xs i v is lt = take_more (map f xs) i (f v) (omega (arith, lt, length-map xs f)) ∙ ap (λ y. take i (map f xs) ++ y ∷ []) (get_or-map f xs i v (f v) lt ∙ ap f (sym is))

-- one worker's list more is lent
pub lent_more : (lists new : List (Bor (List PageMsg))) (one : Bor (List PageMsg)) (ws : List (Worked (Vec PageMsg Global))) (i : ℕ) (w : Worked (Vec PageMsg Global)) → new ≡ lists ++ one ∷ [] → lent lists ≡ take i (lists_of ws) → one.now ≡ w.list.items → w ≡ get_or ws i w → i < length ws
    → lent new ≡ take (i + 1) (lists_of ws)
lent_more lists new one ws i w grown so_far is at below =
    ap lent grown
    ∙ map-append (λ (list : Bor (List PageMsg)). list.now) lists (one ∷ [])
    ∙ ap (λ (xs : List (List PageMsg)). xs ++ one.now ∷ []) so_far
    ∙ ap (λ (x : List PageMsg). take i (lists_of ws) ++ x ∷ []) is
    ∙ sym (take_one_more (λ (v : Worked (Vec PageMsg Global)). v.list.items) ws i w at below)

-- the record of the same beginning, entries and lists
pub recorded_as : {F : Type 0} (contents : F → Option (List ℕ)) (a b : Option RecordStart) (es fs : List Entry) (ls ms : List (List PageMsg)) (file : Option F) → a ≡ b → es ≡ fs → ls ≡ ms → IsRecorded contents a es ls file → IsRecorded contents b fs ms file
recorded_as contents a b es fs ls ms file begins entries lists stored =
    subst (λ (x : Option RecordStart). IsRecorded contents x fs ms file) begins (subst (λ (xs : List Entry). IsRecorded contents a xs ms file) entries (subst (λ (xs : List (List PageMsg)). IsRecorded contents a es xs file) lists stored))
