-- The lines of records, one behind another.
use Rattle.std.proofs.Common.{◌≡◌, ℕ, ◌+◌, ◌<◌, ◌≤◌, List, ◌++◌, length, get_or, take, map, min, sym, ap, ◌∙◌, arith, Bor}
use Rattle.std.specs.Prelude.{flat_map, zip}
use Rattle.std.proofs.lemmas.List.{length-map, get_or-map, take_all}
use Rattle.std.proofs.lemmas.Slice.Zip.{length-zip, get_or-zip}
use Rattle.srm_frames.proofs.Elements.{one_more}
use Rattle.srm_frames.specs.declared.reading.Record.{Record}
use Rattle.srm_verdicts.specs.VerdictTexts.{line_of, record_line}

-- the line of one record more
pub lines_more : (names : List (List ℕ)) (paths : List (Bor (List ℕ))) (rs : List Record) (at : ℕ) (head text : List ℕ) (path : Bor (List ℕ)) (r : Record)
    → at < length paths → at < length rs → path ≡ get_or paths at path → r ≡ get_or rs at r
    → text ≡ head ++ flat_map (line_of names) (take at (zip (map (λ path. path.now) paths) rs))
    → text ++ record_line names path.now r ≡ head ++ flat_map (line_of names) (take (at + 1) (zip (map (λ path. path.now) paths) rs))
lines_more names paths rs at head text path r there too is same so =
    let texts : List (List ℕ) = map (λ (path : Bor (List ℕ)). path.now) paths in
    let long : at < length texts = omega (arith, there, length-map paths (λ (path : Bor (List ℕ)). path.now)) in
    let here : at < length (zip texts rs) = omega (arith, long, too, length-zip texts rs) in
    let text_is : path.now ≡ get_or texts at path.now = ap (λ (p : Bor (List ℕ)). p.now) is ∙ sym (get_or-map (λ (p : Bor (List ℕ)). p.now) paths at path path.now there) in
    let found : (path.now, r) ≡ get_or (zip texts rs) at (path.now, r) =
    ap (λ (p : List ℕ). (p, r)) text_is ∙ ap (λ (q : Record). (get_or texts at path.now, q)) same ∙ sym (get_or-zip texts rs at (path.now, r) long too) in
    ap (λ (before : List ℕ). before ++ record_line names path.now r) so ∙ one_more (line_of names) head (zip texts rs) at (path.now, r) here found

-- all lines
pub lines_all : (names : List (List ℕ)) (paths : List (Bor (List ℕ))) (rs : List Record) (at : ℕ) (head text : List ℕ)
    → at ≡ min (length paths) (length rs)
    → text ≡ head ++ flat_map (line_of names) (take at (zip (map (λ path. path.now) paths) rs))
    → text ≡ head ++ flat_map (line_of names) (zip (map (λ path. path.now) paths) rs)
lines_all names paths rs at head text end so =
    let texts : List (List ℕ) = map (λ (path : Bor (List ℕ)). path.now) paths in
    let most : length (zip texts rs) ≤ at = omega (arith, end, length-map paths (λ (path : Bor (List ℕ)). path.now), length-zip texts rs) in
    so ∙ ap (λ (pairs : List (List ℕ × Record)). head ++ flat_map (line_of names) pairs) (take_all at (zip texts rs) most)
