-- Each step keeps the rule of the stroke queue.
use Rattle.std.proofs.Common.{◌≡◌, ◌≢◌, ℕ, ◌+◌, ◌<◌, true, false, true≢false, cond, eqb, eq-eqb, ne_eqb, List, [], ◌∷◌, ◌++◌, length, set, sym, refl, ap, ◌∙◌, subst, ⊎_elim, append_assoc, append-nil, arith}
use mathlib.Core.Option.{some}
use lib.ListN.{get_elem?}
use Rattle.std.proofs.lemmas.List.Elements.{filter-append}
use Rattle.atomic_table.proofs.Lists.{at_set}
use Rattle.crossbeam_queue.specs.Fifo.{Pushes, Pops, Forks, Merges, Learns}
use Rattle.srm_pages.specs.declared.stroke.Stroke.{Stroke}
use Rattle.srm_pages.specs.declared.ink.InkView.{InkView}
use Rattle.srm_pages.specs.Ink.{ink_view, reader, new_pen, with_one_pen_more, with_pen, joined_pass, reader_of, pen_of, strokes_of, KnowsPart, FitsInk, IsWellState, PenSends, ReaderReceives}
use Rattle.srm_pages.proofs.Views.{All, all_set, all_one, snoc_cases}

pub part_of_both : (p : ℕ) (l m : List Stroke) → strokes_of p (l ++ m) ≡ strokes_of p l ++ strokes_of p m
part_of_both p l m = filter-append (λ (x : Stroke). eqb p x.pen) l m

mine_more : (p : ℕ) (l items : List Stroke) (x : Stroke) → p ≡ x.pen → strokes_of p (l ++ (items ++ x ∷ [])) ≡ strokes_of p (l ++ items) ++ x ∷ []
mine_more p l items x e =
    ap (strokes_of p) (sym (append_assoc l items (x ∷ []))) ∙ part_of_both p (l ++ items) (x ∷ []) ∙ ap (λ b. strokes_of p (l ++ items) ++ cond b (x ∷ []) []) (eq-eqb p x.pen e)

others_same : (p : ℕ) (l items : List Stroke) (x : Stroke) → p ≢ x.pen → strokes_of p (l ++ (items ++ x ∷ [])) ≡ strokes_of p (l ++ items)
others_same p l items x ne =
    ap (strokes_of p) (sym (append_assoc l items (x ∷ []))) ∙ part_of_both p (l ++ items) (x ∷ []) ∙ ap (λ b. strokes_of p (l ++ items) ++ cond b (x ∷ []) []) (ne_eqb p x.pen ne) ∙ append-nil (strokes_of p (l ++ items))

off : false ≡ true → ⊥
off e = true≢false (sym e)

pub begins : IsWellState [] (reader ∷ [])
begins = record {
  seat = λ _. 0;
  made = 0;
  received = [];
  blank = λ p _. refl;
  fits = all_one (FitsInk (λ _. 0) 0 [] []) reader record { pen = λ d. absurd (off d); reader = λ _. (refl, refl, refl) };
}

pub writes : (n id : ℕ) (v : InkView) (x : Stroke) → v.writes ≡ true → x.pen ≡ v.pen → Pushes IsWellState n id v x (PenSends v x)
writes n id v x may own items views _ h at =
    let w = ink_view v.reads v.received v.made v.writes v.pen (v.sent ++ x ∷ []) in
    let my = h.fits id v at in
    let me = my.pen may in (
      w,
      record {
        seat = h.seat;
        made = h.made;
        received = h.received;
        blank = λ p late. others_same p h.received items x (λ (e : p ≡ x.pen). let lt = me.1 in omega arith) ∙ h.blank p late;
        fits = all_set (FitsInk h.seat h.made h.received (items ++ x ∷ [])) views id w
            record { pen = λ _. (me.0, me.1, ap (λ l. l ++ x ∷ []) me.2 ∙ sym (mine_more v.pen h.received items x (sym own))); reader = my.reader }
            (λ j u apart e. let its = h.fits j u e in record {
              pen = λ d. let own' = its.pen d in (own'.0, own'.1, own'.2 ∙ sym (others_same u.pen h.received items x (λ (q : u.pen ≡ x.pen). apart (sym own'.0 ∙ ap h.seat (q ∙ own) ∙ me.0))));
              reader = its.reader;
            });
      },
      refl,
    )

pub reads : (id : ℕ) (v : InkView) → v.reads ≡ true → Pops IsWellState id v (ReaderReceives v)
reads id v may x items views h at =
    let w = ink_view v.reads (v.received ++ x ∷ []) v.made v.writes v.pen v.sent in
    let my = h.fits id v at in
    let me = my.reader may in
    let received = h.received ++ x ∷ [] in
    let so : received ++ items ≡ h.received ++ x ∷ items = append_assoc h.received (x ∷ []) items in
    let pens : (j : ℕ) (u : InkView) → FitsInk h.seat h.made h.received (x ∷ items) j u → u.writes ≡ true → (h.seat u.pen ≡ j) × (u.pen < h.made) × (u.sent ≡ strokes_of u.pen (received ++ items)) =
    (λ j u its d. let own = its.pen d in (own.0, own.1, own.2 ∙ ap (strokes_of u.pen) (sym so))) in (
      w,
      record {
        seat = h.seat;
        made = h.made;
        received = received;
        blank = λ p late. ap (strokes_of p) so ∙ h.blank p late;
        fits = all_set (FitsInk h.seat h.made received items) views id w
            record { pen = pens id v my; reader = λ _. (me.0, ap (λ l. l ++ x ∷ []) me.1, me.2) }
            (λ j u apart e. let its = h.fits j u e in record { pen = pens j u its; reader = λ d. absurd (apart ((its.reader d).0 ∙ sym me.0)) });
      },
      refl,
    )

pub next_pen : (id : ℕ) (v : InkView) → v.reads ≡ true → Forks IsWellState id v (with_one_pen_more v) (new_pen v.made)
next_pen id v may items views h at =
    let my = h.fits id v at in
    let me = my.reader may in
    let left = with_one_pen_more v in
    let right = new_pen v.made in
    let count = length (set views id left) in
    let seat : ℕ → ℕ = λ k. cond (eqb k h.made) count (h.seat k) in
    let before : (k : ℕ) → k < h.made → seat k ≡ h.seat k = (λ k lt. ap (λ b. cond b count (h.seat k)) (ne_eqb k h.made (λ e. omega arith))) in
    let here : seat v.made ≡ count = ap (λ b. cond b count (h.seat v.made)) (eq-eqb v.made h.made me.2) in
    let was : (j : ℕ) (u : InkView) → FitsInk h.seat h.made h.received items j u → u.writes ≡ true → (seat u.pen ≡ j) × (u.pen < h.made + 1) × (u.sent ≡ strokes_of u.pen (h.received ++ items)) =
    (λ j u its d. let own = its.pen d in (before u.pen own.1 ∙ own.0, (let lt = own.1 in omega arith), own.2)) in
    record {
      seat = seat;
      made = h.made + 1;
      received = h.received;
      blank = λ p late. h.blank p (omega arith);
      fits = λ j u e. ⊎_elim
          (all_set (FitsInk seat (h.made + 1) h.received items) views id left
          record { pen = was id v my; reader = λ _. (me.0, me.1, ap (λ k. k + 1) me.2) }
          (λ k w apart f. let its = h.fits k w f in record { pen = was k w its; reader = λ d. absurd (apart ((its.reader d).0 ∙ sym me.0)) })
          j u)
          (λ (t : (j ≡ count) × (right ≡ u)). subst (λ (y : ℕ × InkView). FitsInk seat (h.made + 1) h.received items y.0 y.1) (λ i. (sym t.0 i, t.1 i))
          record {
            pen = λ _. (here, (let q = me.2 in omega arith), sym (h.blank v.made (let q = me.2 in omega arith)));
            reader = λ d. absurd (off d);
          })
          (snoc_cases (set views id left) right u j e);
    }

-- the reader's pass takes in a producer's
pub joins : (id : ℕ) (v : InkView) (other : ℕ) (u : InkView) → v.reads ≡ true → u.writes ≡ true → Merges IsWellState id v other u (with_pen v u) joined_pass
joins id v other u may writes items views h at two at' =
    let both = with_pen v u in
    let my = h.fits id v at in
    let vs : List InkView = set views id both in
    let was : get_elem? views other ≡ some u = ⊎_elim (λ x. absurd (two x.0)) (λ x. x.1) (at_set views id other both u at') in
    let its = (h.fits other u was).pen writes in
    let seat : ℕ → ℕ = λ k. cond (eqb k u.pen) id (h.seat k) in
    let here : seat u.pen ≡ id = ap (λ b. cond b id (h.seat u.pen)) (eq-eqb u.pen u.pen refl) in
    let before : (k : ℕ) → k ≢ u.pen → seat k ≡ h.seat k = (λ k ne. ap (λ b. cond b id (h.seat k)) (ne_eqb k u.pen ne)) in
    let Now : ℕ → InkView → Type 0 = λ j w. j ≢ other → FitsInk seat h.made h.received items j w in
    let now : All Now vs = all_set Now views id both (λ _. record { pen = λ _. (here, its.1, its.2); reader = my.reader })
    (λ j w _ e apart. let f = h.fits j w e in record {
      pen = λ d. let own = f.pen d in (before w.pen (λ (q : w.pen ≡ u.pen). apart (sym own.0 ∙ ap h.seat q ∙ its.0)) ∙ own.0, own.1, own.2);
      reader = f.reader;
    }) in
    record {
      seat = seat;
      made = h.made;
      received = h.received;
      blank = h.blank;
      fits = all_set (FitsInk seat h.made h.received items) vs other joined_pass record { pen = λ d. absurd (off d); reader = λ d. absurd (off d) } (λ j w apart e. now j w e apart);
    }

-- and learns what the producer's part is
pub learns_part : (id : ℕ) (v : InkView) → v.reads ≡ true → v.writes ≡ true → Learns IsWellState id v (KnowsPart v)
learns_part id v may writes items views h at =
    let my = h.fits id v at in
    record { sent = (my.pen writes).2 ∙ part_of_both v.pen h.received items ∙ ap (λ l. strokes_of v.pen l ++ strokes_of v.pen items) (sym (my.reader may).1) }

-- and gives the producer's pass back
pub parts : (id : ℕ) (v : InkView) → v.reads ≡ true → v.writes ≡ true → Forks IsWellState id v (reader_of v) (pen_of v)
parts id v may writes items views h at =
    let my = h.fits id v at in
    let its = my.pen writes in
    let left = reader_of v in
    let right = pen_of v in
    let count = length (set views id left) in
    let seat : ℕ → ℕ = λ k. cond (eqb k v.pen) count (h.seat k) in
    let here : seat v.pen ≡ count = ap (λ b. cond b count (h.seat v.pen)) (eq-eqb v.pen v.pen refl) in
    let before : (k : ℕ) → k ≢ v.pen → seat k ≡ h.seat k = (λ k ne. ap (λ b. cond b count (h.seat k)) (ne_eqb k v.pen ne)) in
    record {
      seat = seat;
      made = h.made;
      received = h.received;
      blank = h.blank;
      fits = λ j u e. ⊎_elim
          (all_set (FitsInk seat h.made h.received items) views id left
          record { pen = λ d. absurd (off d); reader = my.reader }
          (λ k w apart f. let own = h.fits k w f in record {
            pen = λ d. let mine = own.pen d in (before w.pen (λ (q : w.pen ≡ v.pen). apart (sym mine.0 ∙ ap h.seat q ∙ its.0)) ∙ mine.0, mine.1, mine.2);
            reader = own.reader;
          })
          j u)
          (λ (t : (j ≡ count) × (right ≡ u)). subst (λ (y : ℕ × InkView). FitsInk seat h.made h.received items y.0 y.1) (λ i. (sym t.0 i, t.1 i))
          record { pen = λ _. (here, its.1, its.2); reader = λ d. absurd (off d) })
          (snoc_cases (set views id left) right u j e);
    }
