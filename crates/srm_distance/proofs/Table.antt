-- The table of distances beside what is kept of the members.
use Rattle.std.proofs.Common.{◌≡◌, ◌≢◌, ◌<◌, ◌≤◌, ◌↔◌, ℕ, inl, inr, get_or, set, replicate, List, [], Option, Some, None, refl, sym, ap, ◌∙◌, arith}
use Rattle.std.specs.Prelude.{slice_set, slice_get, slice_index}
use Rattle.std.proofs.lemmas.List.{length-set, get_or_past, get_or-set_same, get_or-set_other, length-replicate, get_or-replicate}
use Rattle.std.proofs.lemmas.Option.{slice_get-get_or, slice_get_within, get_or_from_slice_get}
use Rattle.std.proofs.lemmas.Bool.{ne_eqb, eq-eqb, cases_eq, cases_lt}
use Rattle.srm_names.specs.declared.limits.TheConstants.{MEMBERS, LONGEST_DISTANCE}
use Rattle.srm_distance.specs.declared.limits.TheConstants.{SHORTEST_DISTANCE}
use Rattle.srm_distance.specs.declared.peer.Peer.{Peer}
use Rattle.srm_distance.specs.declared.returned.Returned.{Returned}
use Rattle.srm_distance.specs.declared.distances.Distances.TheInside.{Inside}
use Rattle.srm_distance.proofs.Steps.{nobody}
use Rattle.srm_distance.specs.Distance.{estimate}
use Rattle.srm_distance.specs.Echoes.{SentWithin}
use Rattle.srm_distance.specs.Peers.{peer_of}
use Rattle.srm_distance.specs.Content.{DistancesContent, DistancesAreRight, distance_by}
use Rattle.srm_distance.specs.Fits.{IsTableOf}

to_oneself : (least me : ℕ) (p : Peer) → distance_by least me me p ≡ 0
to_oneself least me p = rw (eq-eqb me me refl) refl

to_another : (least me member : ℕ) (p : Peer) → member ≢ me → distance_by least me member p ≡ estimate least p.returned
to_another least me member p ne = rw (ne_eqb member me ne) refl

at : (least me m : ℕ) (peers : List Peer) (table : List ℕ) (d : Peer) → m < MEMBERS → DistancesAreRight (record { me = me; least = least; peers = peers; table = table })
    → slice_index table m ≡ distance_by least me m (get_or peers m d)
at least me m peers table d lt h = h.table m (get_or peers m d) (slice_get-get_or peers m d (omega (arith, lt, h.peers)))

-- what stands in the table is what the definitions say
pub is_table : (d : DistancesContent) (table : List ℕ) → DistancesAreRight (record { me = d.me; least = d.least; peers = d.peers; table = table }) → IsTableOf d table
is_table d table h = record {
  each = λ least me calls fits m below. h.table m (peer_of calls m) (fits.each m below)
      ∙ ap (λ k. distance_by d.least k m (peer_of calls m)) fits.me_is ∙ ap (λ k. distance_by k me m (peer_of calls m)) fits.least_is;
}

estimate_longest : (least : ℕ) (r : Option Returned) → least ≤ LONGEST_DISTANCE → estimate least r ≤ LONGEST_DISTANCE
estimate_longest least None h = omega (arith, h)
estimate_longest least (Some r) h = omega (arith, h)

estimate_shortest : (least : ℕ) (r : Option Returned) → least ≤ estimate least r
estimate_shortest least None = omega arith
estimate_shortest least (Some r) = omega arith

by_longest : (least me m : ℕ) (p : Peer) → least ≤ LONGEST_DISTANCE → distance_by least me m p ≤ LONGEST_DISTANCE
by_longest least me m p h = elim (cases_eq m me) [
  | inl same ↦ omega (arith, ap (λ k. distance_by least k m p) (sym same), to_oneself least m p)
  | inr other ↦ omega (arith, to_another least me m p other, estimate_longest least p.returned h)
]

pub longest : (d : Inside) (m : ℕ) → DistancesAreRight d → slice_index d.table m ≤ LONGEST_DISTANCE
longest d m h = elim (cases_lt m MEMBERS) [
  | inl lt ↦ omega (arith, at d.least d.me m d.peers d.table nobody lt h, by_longest d.least d.me m (get_or d.peers m nobody) h.longest)
  | inr le ↦ omega (arith, get_or_past d.table m 0 (omega (arith, le, h.size)))
]

pub only_to_oneself : (d : Inside) (m : ℕ) → m < MEMBERS → DistancesAreRight d → (slice_index d.table m ≡ 0) ↔ (m ≡ d.me)
only_to_oneself d m lt h = record {
  0 = λ zero. elim (cases_eq m d.me) [
    | inl same ↦ same
    | inr other ↦ absurd (omega (arith, zero, at d.least d.me m d.peers d.table nobody lt h, to_another d.least d.me m (get_or d.peers m nobody) other, estimate_shortest d.least (get_or d.peers m nobody).returned, h.shortest))
  ];
  1 = λ same. at d.least d.me m d.peers d.table nobody lt h ∙ ap (λ k. distance_by d.least k m (get_or d.peers m nobody)) (sym same) ∙ to_oneself d.least m (get_or d.peers m nobody);
}

-- what is made for members that weren't heard
pub kept_new : (least far me place : ℕ) (p : Peer) → SHORTEST_DISTANCE ≤ least → least ≤ LONGEST_DISTANCE → far ≡ estimate least None
    → place ≡ me → place < MEMBERS → p ≡ peer_of [] 0 → SentWithin p.newest_message
    → DistancesAreRight (record { me = me; least = least; peers = replicate 32 p; table = slice_set (replicate 32 far) place 0 })
kept_new least far me place p shortest longest far_is at lt nobody sent = record {
  shortest = shortest;
  longest = longest;
  sent = λ k d below. rw (get_or-replicate 32 k p d below) sent;
  peers = length-replicate 32 p;
  size = length-set (replicate 32 far) place 0 ∙ length-replicate 32 far;
  table = λ m q found. elim (cases_eq m place) [
    | inl same ↦ ap (λ k. get_or (set (replicate 32 far) place 0) k 0) same
        ∙ get_or-set_same (replicate 32 far) place 0 0 (omega (arith, lt, length-replicate 32 far))
        ∙ sym (to_oneself least me q) ∙ ap (λ k. distance_by least me k q) (sym at ∙ sym same)
    | inr other ↦ get_or-set_other (replicate 32 far) place m 0 0 other ∙ get_or-replicate 32 m far 0 (under m q found) ∙ far_is
        ∙ ap (λ (x : Peer). estimate least x.returned) (sym nobody ∙ unknown m q found) ∙ sym (to_another least me m q (λ e. other (e ∙ sym at)))
  ];
}
  where
    under : (m : ℕ) (q : Peer) → slice_get (replicate 32 p) m ≡ Some q → m < 32
    under m q found = omega (arith, slice_get_within (replicate 32 p) m q found, length-replicate 32 p)

    unknown : (m : ℕ) (q : Peer) → slice_get (replicate 32 p) m ≡ Some q → p ≡ q
    unknown m q found = sym (get_or-replicate 32 m p q (under m q found)) ∙ get_or_from_slice_get (replicate 32 p) m q q found
