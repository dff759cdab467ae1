-- What a tick does to the bucket: it adds its requests and repairs, and what goes is what the entry charges.
use Rattle.std.proofs.Common.{◌≡◌, ℕ, true, false, not, ◌&&◌, List, [], ◌∷◌, ◌++◌, map, refl, ap, sym, ◌∙◌, subst, append_assoc}
use Rattle.std.specs.Prelude.{Some, None, if◌then◌else◌}
use Rattle.std.specs.Bool.{OnTrue}
use Rattle.std.specs.List.{AllByRecursion}
use Rattle.std.proofs.lemmas.List.{map-append}
use Rattle.srm_names.specs.declared.page.Page.{Page}
use Rattle.srm_codec.specs.declared.datagram.Datagram.{Datagram}
use Rattle.srm_bucket.specs.Calls.{Classed, Handed, Popped}
use Rattle.srm_bucket.specs.Content.{BucketContent}
use Rattle.srm_bucket.specs.Mapping.{read_classed, read_call}
use Rattle.srm_outbox.specs.declared.due_items.DueItem.{DueItem}
use Rattle.srm_entries.specs.declared.entry.Entry.{Entry}
use Rattle.srm_outbox.specs.declared.out.Outgoing.{Outgoing}
use Rattle.srm_entries.specs.Configs.{Config}
use Rattle.srm_entries.specs.Entries.{ticked, state, is_gone, shown}
use Rattle.srm_entries.specs.Sessions.{charged}
use Rattle.srm_entries.specs.Bucket.{Going, GoesAsCharged, entries_of, lets_go, pops, bucket_calls, handed_in_by, requests_and_repairs, due_item, data_item, datagrams_of}
use Rattle.srm_agent.specs.Fits.{BucketFitsPast}
use Rattle.srm_outbox.specs.Outs.{datagram_of, IsOwn, AreOwn}
use Rattle.srm_outbox.specs.DueItems.{AreDueItems, classed_of}
use Rattle.srm_outbox.specs.Outbox.{WentContent, HandsIn, Goes, LetsGo}
use Rattle.srm_entries.proofs.Running.{steps_more}
use Rattle.srm_entries.proofs.Marking.{bucket_calls-snoc, entries-snoc}

-- what is noted is what goes
noted_are : (me session : ℕ) (items : List Outgoing) → AllByRecursion (IsOwn me session) items → map (λ o. o.noted) items ≡ map datagram_of items
noted_are me session [] own = refl
noted_are me session (o ∷ items) own = ap (λ g. g ∷ map (λ (x : Outgoing). x.noted) items) own.0.spelled.noted ∙ ap (λ gs. datagram_of o ∷ gs) (noted_are me session items own.1)

datagrams_read : (goes : List (Classed Outgoing)) → datagrams_of (map (read_classed datagram_of) goes) ≡ map datagram_of (map (λ i. i.item.value) goes)
datagrams_read [] = refl
datagrams_read (i ∷ goes) = ap (λ gs. datagram_of i.item.value ∷ gs) (datagrams_read goes)

pops_read : (now : ℕ) (goes : List (Classed Outgoing)) → map (read_call datagram_of) (pops now goes) ≡ pops now (map (read_classed datagram_of) goes)
pops_read now [] = refl
pops_read now (i ∷ goes) = ap (λ cs. Popped now (Some (read_classed datagram_of i)) ∷ cs) (pops_read now goes)

handed_read : (due_items : List DueItem) → map (read_call datagram_of) (map Handed (map classed_of due_items)) ≡ map Handed (map (λ a. read_classed datagram_of (classed_of a)) due_items)
handed_read [] = refl
handed_read (a ∷ due_items) = ap (λ cs. Handed (read_classed datagram_of (classed_of a)) ∷ cs) (handed_read due_items)

-- the entry of a tick, by what it hands in and lets go
pub record TickSends (c : Config) (past : List Entry) (e : Entry) (datagrams : List Datagram) (went : List Datagram) : Type 0 where
  pub ticked : ticked e ≡ true
  pub here : is_gone (state past) ≡ false
  pub drawn : e.effects.drawn ≡ None
  pub datagrams_are : datagrams ≡ requests_and_repairs c.me (record { before = past; this = e })
  pub charged_are : charged e ≡ went

pub bucket_ticks : (c : Config) (session : ℕ) (past : List Entry) (e : Entry) (old after_hand_in new : BucketContent Outgoing) (showing : Page) (gs : List Datagram) (due_items : List DueItem) (went : WentContent)
    → BucketFitsPast c past old → AreOwn c.me session old.waiting → AreDueItems c.me session showing gs due_items → showing ≡ shown past
    → HandsIn due_items old after_hand_in → LetsGo e.moment after_hand_in new went → TickSends c past e gs went.noted → BucketFitsPast c (past ++ e ∷ []) new
bucket_ticks c session past e old after_hand_in new showing gs due_items went h own spelled page hands goes sends = record {
  goings = h.goings ++ x ∷ [];
  entries = entries-snoc h.goings x ∙ ap (λ es. es ++ e ∷ []) h.entries;
  goes = steps_more GoesAsCharged h.goings x h.goes right;
  calls = (h.calls ++ map Handed (map classed_of due_items)) ++ pops e.moment g.goes;
  read = read;
  fits = g.fits;
}
  where
    g : Goes c.rate c.depth e.moment (h.calls ++ map Handed (map classed_of due_items)) goes.items new
    g = goes.fits c.rate c.depth (h.calls ++ map Handed (map classed_of due_items)) (hands.fits c.rate c.depth h.calls h.fits)

    x : Going
    x = record { entry = e; goes = map (read_classed datagram_of) g.goes }

    own_items : AllByRecursion (IsOwn c.me session) goes.items
    own_items = goes.own c.me session (hands.own c.me session own spelled.own)

    lets : lets_go (record { before = h.goings; this = x }) ≡ true
    lets = ap (λ b. b && not (is_gone (state (entries_of h.goings)))) sends.ticked ∙ ap (λ es. not (is_gone (state es))) h.entries ∙ ap not sends.here

    right : GoesAsCharged (record { before = h.goings; this = x })
    right = record {
      same = datagrams_read g.goes ∙ ap (map datagram_of) g.items_are ∙ sym (noted_are c.me session goes.items own_items) ∙ sym goes.noted ∙ sym sends.charged_are;
      at_ticks = subst (λ b. OnTrue (not b) (x.goes ≡ [])) (sym lets) tt;
    }

    items : map (λ a. read_classed datagram_of (classed_of a)) due_items ≡ handed_in_by c.me (record { before = entries_of h.goings; this = e })
    items =
        spelled.read ∙ ap (λ p. map (due_item p) gs) page ∙ ap (map (due_item (shown past))) sends.datagrams_are
        ∙ ap (λ o. data_item o ++ map (due_item (shown past)) (requests_and_repairs c.me (record { before = past; this = e }))) (sym sends.drawn)
        ∙ ap (λ es. handed_in_by c.me (record { before = es; this = e })) (sym h.entries)

    read : map (read_call datagram_of) ((h.calls ++ map Handed (map classed_of due_items)) ++ pops e.moment g.goes) ≡ bucket_calls c.me (h.goings ++ x ∷ [])
    read =
        map-append (read_call datagram_of) (h.calls ++ map Handed (map classed_of due_items)) (pops e.moment g.goes)
        ∙ ap (λ cs. cs ++ map (read_call datagram_of) (pops e.moment g.goes)) (map-append (read_call datagram_of) h.calls (map Handed (map classed_of due_items)))
        ∙ ap (λ cs. (map (read_call datagram_of) h.calls ++ map (read_call datagram_of) (map Handed (map classed_of due_items))) ++ cs) (pops_read e.moment g.goes)
        ∙ ap (λ cs. (map (read_call datagram_of) h.calls ++ cs) ++ pops e.moment x.goes) (handed_read due_items ∙ ap (map Handed) items)
        ∙ ap (λ cs. (cs ++ map Handed (handed_in_by c.me (record { before = entries_of h.goings; this = e }))) ++ pops e.moment x.goes) h.read
        ∙ append_assoc (bucket_calls c.me h.goings) (map Handed (handed_in_by c.me (record { before = entries_of h.goings; this = e }))) (pops e.moment x.goes)
        ∙ ap (λ b. bucket_calls c.me h.goings ++ (map Handed (handed_in_by c.me (record { before = entries_of h.goings; this = e })) ++ (if b then pops e.moment x.goes else []))) (sym lets)
        ∙ sym (bucket_calls-snoc c.me h.goings x)
