-- Bytes as datagrams, one behind the other.
use Rattle.std.proofs.Common.{◌≡◌, ℕ, suc, ◌+◌, ◌-◌, ◌≤◌, min, List, [], ◌∷◌, ◌++◌, length, take, drop, refl, ap, ◌∙◌, inl, inr, arith}
use Rattle.std.proofs.lemmas.List.{length-append, length-drop, length-take, take-append-le, drop-append-le, take-take, take_all}
use Rattle.srm_udp.specs.Waiting.{total, cut, bytes_of, IsFull, KeepsRoom}

total_more : (ns : List ℕ) (n : ℕ) → total (ns ++ n ∷ []) ≡ total ns + n
total_more [] n = omega arith
total_more (m ∷ ns) n = ap (λ k. m + k) (total_more ns n) ∙ omega arith

cut_more : (ns bytes new : List ℕ) → total ns ≡ length bytes → cut (ns ++ length new ∷ []) (bytes ++ new) ≡ cut ns bytes ++ new ∷ []
cut_more [] [] new all = ap (λ xs. xs ∷ []) (take_all (length new) new (omega arith))
cut_more [] (b ∷ bytes) new all = absurd (omega (arith, all))
cut_more (n ∷ ns) bytes new all =
    let few : n ≤ length bytes = omega (arith, all) in
    let rest : total ns ≡ length (drop n bytes) = omega (arith, all, length-drop n bytes) in
    ap (λ xs. xs ∷ cut (ns ++ length new ∷ []) (drop n (bytes ++ new))) (take-append-le n bytes new few)
    ∙ ap (λ ys. take n bytes ∷ cut (ns ++ length new ∷ []) ys) (drop-append-le n bytes new few)
    ∙ ap (λ yss. take n bytes ∷ yss) (cut_more ns (drop n bytes) new rest)

pub length_cut : (ns bytes : List ℕ) → length (cut ns bytes) ≡ length ns
length_cut [] bytes = refl
length_cut (n ∷ ns) bytes = ap (λ k. suc k) (length_cut ns (drop n bytes))

bytes_cut : (ns bytes : List ℕ) → total ns ≡ length bytes → bytes_of (cut ns bytes) ≡ total ns
bytes_cut [] bytes all = refl
bytes_cut (n ∷ ns) bytes all =
    let few : length (take n bytes) ≡ n = omega (arith, all, length-take n bytes) in
    let rest : total ns ≡ length (drop n bytes) = omega (arith, all, length-drop n bytes) in
    omega (arith, few, bytes_cut ns (drop n bytes) rest)

-- what is behind the bytes that were taken is as long as what waits
behind : (ns items : List ℕ) (taken : ℕ) → taken + total ns ≡ length items → total ns ≡ length (drop taken items)
behind ns items taken all = omega (arith, all, length-drop taken items)

-- after room was made the same bytes are behind those that were taken
pub kept_room : (ns items items' : List ℕ) (taken taken' : ℕ) → drop taken' items' ≡ drop taken items → taken' ≤ length items' → taken + total ns ≡ length items → taken' + total ns ≡ length items'
kept_room ns items items' taken taken' same bound all = omega (arith, behind ns items taken all, ap length same, length-drop taken' items', length-drop taken items)

-- one more waits
pub pushed : (ns items items' datagram : List ℕ) (taken taken' : ℕ) → drop taken' items' ≡ drop taken items → taken' ≤ length items' → taken + total ns ≡ length items → cut (ns ++ length datagram ∷ []) (drop taken' (items' ++ datagram)) ≡ cut ns (drop taken items) ++ datagram ∷ []
pushed ns items items' datagram taken taken' same bound all =
    ap (cut (ns ++ length datagram ∷ [])) (drop-append-le taken' items' datagram bound ∙ ap (λ xs. xs ++ datagram) same)
    ∙ cut_more ns (drop taken items) datagram (behind ns items taken all)

pub pushed_all : (ns items datagram : List ℕ) (taken : ℕ) → taken + total ns ≡ length items → taken + total (ns ++ length datagram ∷ []) ≡ length (items ++ datagram)
pushed_all ns items datagram taken all = omega (arith, total_more ns (length datagram), length-append items datagram, all)

-- too many wait, or too much
pub full_by_count : (ns items datagram : List ℕ) (taken : ℕ) → 32768 ≤ length ns → IsFull (cut ns (drop taken items)) datagram
full_by_count ns items datagram taken many = inl (omega (arith, length_cut ns (drop taken items)))

pub full_by_bytes : (ns items datagram : List ℕ) (taken : ℕ) → taken + total ns ≡ length items → 3932160 ≤ length items - taken + length datagram → IsFull (cut ns (drop taken items)) datagram
full_by_bytes ns items datagram taken all much = inr (omega (arith, bytes_cut ns (drop taken items) (behind ns items taken all), all))

-- the one that waits longest is taken, cut to the buffer
pub popped : (n : ℕ) (ns items buffer : List ℕ) (taken count : ℕ) → count ≡ min n (length buffer) → take count buffer ≡ take count (drop taken items) → take count buffer ≡ take (length buffer) (take n (drop taken items))
popped n ns items buffer taken count is same = same ∙ cuts n (length buffer) count (drop taken items) is
  where
    cuts : (n m count : ℕ) (xs : List ℕ) → count ≡ min n m → take count xs ≡ take m (take n xs)
    cuts n m count xs is = grind (arith, take-take {A = ℕ}, take_all {A = ℕ}, length-take {A = ℕ}, is)

-- and room is kept
pub keeps_pushed : (ns ns' items items' items'' datagram : List ℕ) (taken taken' capacity capacity' places places' : ℕ) → items'' ≡ items' ++ datagram → ns' ≡ ns ++ length datagram ∷ []
    → drop taken' items' ≡ drop taken items → taken' ≤ length items' → KeepsRoom items ns taken capacity places → capacity ≤ capacity' → places ≤ places' → KeepsRoom items'' ns' taken' capacity' places'
keeps_pushed ns ns' items items' items'' datagram taken taken' capacity capacity' places places' is more same bound kept bytes lengths = record {
  whole = rw (is, more) (pushed_all ns items' datagram taken' (kept_room ns items items' taken taken' same bound kept.whole));
  room_for_bytes = omega (arith, kept.room_for_bytes);
  room_for_lengths = omega (arith, kept.room_for_lengths);
}
