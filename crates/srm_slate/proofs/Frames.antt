-- What a tab was told, frame by frame.
use Rattle.std.proofs.Common.{◌≡◌, ℕ, zero, suc, ◌+◌, List, [], ◌∷◌, ◌++◌, length, take, drop, refl, ap, sym, ◌∙◌, subst, arith, append_assoc, append-nil, length-append}
use Rattle.std.proofs.lemmas.List.{take-append-drop}
use Rattle.std.proofs.Math.Seq.{drop-append_seam}
use Rattle.srm_names.specs.Histories.{IsPrefix}
use Rattle.srm_slate.specs.declared.taken.Taken.{Taken}
use Rattle.srm_slate.specs.Slates.{told_from}
use Rattle.srm_slate.specs.Tabs.{SheetView, told, all_told, Follow, AreOf, TellsPrefix}

told_more : (sheets : List SheetView) (sheet : SheetView) → all_told (sheets ++ sheet ∷ []) ≡ all_told sheets ++ told sheet
told_more [] sheet = append-nil (told sheet)
told_more (s ∷ ss) sheet = ap (λ w. told s ++ w) (told_more ss sheet) ∙ sym (append_assoc (told s) (all_told ss) (told sheet))

follows_on : (sheets : List SheetView) (sheet : SheetView) (first : ℕ) → sheet.before.from ≡ first + length (all_told sheets) → Follow first sheets → Follow first (sheets ++ sheet ∷ [])
follows_on [] sheet first here follows = (omega (arith, here), tt)
follows_on (s ∷ ss) sheet first here (begins, follows) =
    let long : length (all_told (s ∷ ss)) ≡ length (told s) + length (all_told ss) = length-append (told s) (all_told ss) in
    let later : sheet.before.from ≡ (first + length (told s)) + length (all_told ss) = omega (arith, here, long) in
    (begins, follows_on ss sheet (first + length (told s)) later follows)

-- a tab that is told one more frame
pub noted_on : (frames new : List SheetView) (sheet : SheetView) (first to : ℕ) → new ≡ frames ++ sheet ∷ [] → sheet.before.from ≡ first + length (all_told frames) → to ≡ sheet.before.from + length (told sheet) → Follow first frames
    → (to ≡ first + length (all_told new)) × Follow first new
noted_on frames new sheet first to is here counts follows =
    let long : length (all_told (frames ++ sheet ∷ [])) ≡ length (all_told frames) + length (told sheet) = ap length (told_more frames sheet) ∙ length-append (all_told frames) (told sheet) in
    let at : to ≡ first + length (all_told (frames ++ sheet ∷ [])) = omega (arith, here, counts, long) in
    (at ∙ ap (λ ts. first + length (all_told ts)) (sym is), subst (Follow first) (sym is) (follows_on frames sheet first here follows))

drop_split : {X : Type 0} (n : ℕ) (xs ys : List X) → (rest : List X) × (drop n (xs ++ ys) ≡ drop n xs ++ rest)
drop_split zero xs ys = (ys, refl)
drop_split (suc n) [] ys = (drop (suc n) ys, refl)
drop_split (suc n) (x ∷ xs) ys = drop_split n xs ys

-- what is next in a beginning is next in the whole
next_of : {X : Type 0} (n : ℕ) (had by_then taken : List X) → IsPrefix had taken → IsPrefix by_then taken → IsPrefix (had ++ take n (drop (length had) by_then)) taken
next_of n had by_then taken (rest, e) (later, f) =
    let (more, d) = drop_split (length had) by_then later in
    let w = drop (length had) by_then in
    let same : rest ≡ w ++ more = sym (drop-append_seam had rest) ∙ ap (drop (length had)) (e ∙ sym f) ∙ d in (
      drop n w ++ more,
      append_assoc had (take n w) (drop n w ++ more)
          ∙ ap (λ v. had ++ v) (sym (append_assoc (take n w) (drop n w) more))
          ∙ ap (λ v. had ++ (v ++ more)) (take-append-drop n w)
          ∙ ap (λ v. had ++ v) (sym same)
          ∙ e,
    )

told_next : (had taken : List Taken) (sheet : SheetView) → IsPrefix had taken → sheet.before.from ≡ length had → IsPrefix sheet.shown taken → IsPrefix (had ++ told sheet) taken
told_next had taken sheet p here of = subst (λ w. IsPrefix (had ++ w) taken) (sym (ap (λ k. told_from k sheet.shown) here)) (next_of 100 had sheet.shown taken p of)

told_all : (had taken : List Taken) (sheets : List SheetView) → IsPrefix had taken → Follow (length had) sheets → AreOf taken sheets → IsPrefix (had ++ all_told sheets) taken
told_all had taken [] p follows of = subst (λ w. IsPrefix w taken) (sym (append-nil had)) p
told_all had taken (sheet ∷ sheets) p (here, follows) (of, all) =
    subst (λ w. IsPrefix w taken) (append_assoc had (told sheet) (all_told sheets))
    (told_all (had ++ told sheet) taken sheets (told_next had taken sheet p here of) (subst (λ n. Follow n sheets) (sym (length-append had (told sheet))) follows) all)

pub tells_prefix : TellsPrefix
tells_prefix tab had taken long p follows of = told_all had taken tab.frames p (subst (λ n. Follow n tab.frames) (sym long) follows) of
