-- What a tick hands in, one after the other: the repairs of what is held, and each request and repair with its spelling.
use Rattle.std.proofs.Common.{◌≡◌, ℕ, ◌+◌, ◌<◌, List, [], ◌∷◌, ◌++◌, length, get_or, take, map, refl, ap, sym, ◌∙◌, subst, append_assoc}
use Rattle.std.specs.Prelude.{Option, Some, None, option_map, option_to_list, IfSome}
use Rattle.std.specs.List.{AllByRecursion, filter_map, cons_option}
use Rattle.std.proofs.lemmas.List.{append-nil, map-append, take_more}
use Rattle.std.proofs.lemmas.List.Elements.{filter_map-append}
use Rattle.srm_names.specs.declared.page.Page.{Page}
use Rattle.srm_names.specs.declared.drawop.Drawop.{Drawop}
use Rattle.srm_names.specs.FullName.{FullName}
use Rattle.srm_codec.specs.declared.datagram.Datagram.{Datagram}
use Rattle.srm_codec.specs.declared.datagram.Datagram.TheVariants.{Repair}
use Rattle.srm_codec.specs.Spelling.{is_drawop}
use Rattle.srm_names.proofs.Lists.{All-Has, find-Has, AllByRecursion-append}
use Rattle.srm_store.specs.Held.{held_at, has_name}
use Rattle.srm_store.specs.Finals.{Settling}
use Rattle.srm_store.specs.Fits.{StoreFits}
use Rattle.srm_store.specs.Stores.{StoreContent}
use Rattle.srm_bucket.specs.Mapping.{read_classed}
use Rattle.srm_bucket.specs.Waiting.{HasLength}
use Rattle.srm_outbox.specs.declared.due_items.DueItem.{DueItem}
use Rattle.srm_entries.specs.Bucket.{due_item}
use Rattle.srm_outbox.specs.Outs.{datagram_of, IsOwn}
use Rattle.srm_outbox.specs.DueItems.{HoldsSpellable, MayHandIn, IsDueItem, AreDueItems, classed_of}

-- a held drawop can be spelled in a repair
spellable_at : (held : List Drawop) (n : FullName) → AllByRecursion is_drawop held → IfSome (held_at held n) is_drawop
spellable_at held n all = go (held_at held n) refl
  where
    go : (o : Option Drawop) → held_at held n ≡ o → IfSome o is_drawop
    go None e = tt
    go (Some d) e = All-Has is_drawop d held all (find-Has (has_name n) held d e).0

-- what such a store gives under a name can be spelled
pub gives_spellable : (s : StoreContent) (n : FullName) (here : Option Drawop) → HoldsSpellable s → ((held : List Drawop) (evidence : List FullName) (settled : List Settling) → StoreFits held evidence settled s → here ≡ held_at held n)
    → IfSome here is_drawop
gives_spellable s n here h there = subst (λ o. IfSome o is_drawop) (sym (there h.inserted h.evidence h.settled h.fits)) (spellable_at h.inserted n h.spellable)

-- A loop has added the repairs of some of the names.
pub record RepairedSoFar (me : ℕ) (s : StoreContent) (requests : List Datagram) (names : List FullName) (datagrams : List Datagram) : Type 0 where
  pub value : (held : List Drawop) (evidence : List FullName) (settled : List Settling) → StoreFits held evidence settled s
      → datagrams ≡ requests ++ filter_map (λ n. option_map (Repair me) (held_at held n)) names
  pub each : AllByRecursion (MayHandIn me) datagrams

pub repairing_begins : (me : ℕ) (s : StoreContent) (requests datagrams : List Datagram) → datagrams ≡ requests → AllByRecursion (MayHandIn me) datagrams → RepairedSoFar me s requests [] datagrams
repairing_begins me s requests datagrams e all = record { value = λ held evidence settled fits. e ∙ sym (append-nil requests); each = all }

pub repairing_goes_on : (me : ℕ) (s : StoreContent) (requests : List Datagram) (names : List FullName) (i : ℕ) (n : FullName) (datagrams : List Datagram) (here : Option Drawop) (o : Option Datagram) → i < length names → n ≡ get_or names i n
    → ((held : List Drawop) (evidence : List FullName) (settled : List Settling) → StoreFits held evidence settled s → here ≡ held_at held n) → o ≡ option_map (Repair me) here → IfSome o (MayHandIn me)
    → RepairedSoFar me s requests (take i names) datagrams → RepairedSoFar me s requests (take (i + 1) names) (datagrams ++ option_to_list o)
repairing_goes_on me s requests names i n datagrams here o lt at there is fine h = record {
  value = λ held evidence settled fits.
      ap (λ xs. xs ++ option_to_list o) (h.value held evidence settled fits)
      ∙ append_assoc requests (filter_map (λ n. option_map (Repair me) (held_at held n)) (take i names)) (option_to_list o)
      ∙ ap (λ xs. requests ++ (filter_map (λ n. option_map (Repair me) (held_at held n)) (take i names) ++ xs)) (ap option_to_list (is ∙ ap (option_map (Repair me)) (there held evidence settled fits)) ∙ as_list (option_map (Repair me) (held_at held n)))
      ∙ ap (λ xs. requests ++ xs) (sym (ap (filter_map (λ n. option_map (Repair me) (held_at held n))) (take_more names i n lt ∙ ap (λ m. take i names ++ m ∷ []) (sym at))
      ∙ filter_map-append (λ n. option_map (Repair me) (held_at held n)) (take i names) (n ∷ [])));
  each = AllByRecursion-append (MayHandIn me) datagrams (option_to_list o) h.each (fine_list o fine);
}
  where
    as_list : (p : Option Datagram) → option_to_list p ≡ cons_option p []
    as_list None = refl
    as_list (Some g) = refl

    fine_list : (p : Option Datagram) → IfSome p (MayHandIn me) → AllByRecursion (MayHandIn me) (option_to_list p)
    fine_list None f = tt
    fine_list (Some g) f = (f, tt)

-- A loop has spelled some of the datagrams, and has these left.
pub record SpelledSoFar (me session : ℕ) (showing : Page) (datagrams left : List Datagram) (items : List DueItem) : Type 0 where
  pub done : List Datagram
  pub split : done ++ left ≡ datagrams
  pub spelled : AreDueItems me session showing done items
  pub each : AllByRecursion (MayHandIn me) left

pub spelling_begins : (me session : ℕ) (showing : Page) (datagrams : List Datagram) (items : List DueItem) → items ≡ [] → AllByRecursion (MayHandIn me) datagrams → SpelledSoFar me session showing datagrams datagrams items
spelling_begins me session showing datagrams items e all = record {
  done = [];
  split = refl;
  spelled = subst (λ xs. AreDueItems me session showing [] xs) (sym e) (record { own = tt; read = refl; lengths = tt });
  each = all;
}

pub spelling_goes_on : (me session : ℕ) (showing : Page) (datagrams left rest : List Datagram) (g : Datagram) (items : List DueItem) (a : DueItem) → left ≡ g ∷ rest → IsDueItem me session showing g a → SpelledSoFar me session showing datagrams left items
    → SpelledSoFar me session showing datagrams rest (items ++ a ∷ [])
spelling_goes_on me session showing datagrams left rest g items a e is h = record {
  done = h.done ++ g ∷ [];
  split = append_assoc h.done (g ∷ []) rest ∙ ap (λ xs. h.done ++ xs) (sym e) ∙ h.split;
  spelled = record {
    own = AllByRecursion-append (λ x. IsOwn me session x.item.value) items (a ∷ []) h.spelled.own (is.own, tt);
    read = map-append (λ (x : DueItem). read_classed datagram_of (classed_of x)) items (a ∷ []) ∙ ap (λ xs. xs ++ read_classed datagram_of (classed_of a) ∷ []) h.spelled.read
        ∙ ap (λ x. map (due_item showing) h.done ++ x ∷ []) is.read ∙ sym (map-append (due_item showing) h.done (g ∷ []));
    lengths = AllByRecursion-append (λ x. HasLength x.item) items (a ∷ []) h.spelled.lengths (is.length, tt);
  };
  each = (subst (AllByRecursion (MayHandIn me)) e h.each).1;
}

pub spelling_next : (me session : ℕ) (showing : Page) (datagrams left rest : List Datagram) (g : Datagram) (items : List DueItem) → left ≡ g ∷ rest → SpelledSoFar me session showing datagrams left items → MayHandIn me g
spelling_next me session showing datagrams left rest g items e h = (subst (AllByRecursion (MayHandIn me)) e h.each).0

pub spelling_ends : (me session : ℕ) (showing : Page) (datagrams left : List Datagram) (items : List DueItem) → left ≡ [] → SpelledSoFar me session showing datagrams left items → AreDueItems me session showing datagrams items
spelling_ends me session showing datagrams left items e h = subst (λ gs. AreDueItems me session showing gs items) (sym (append-nil h.done) ∙ ap (λ xs. h.done ++ xs) (sym e) ∙ h.split) h.spelled
