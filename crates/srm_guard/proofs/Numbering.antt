-- Which bytes end with a number.
use Rattle.std.proofs.Common.{◌≡◌, ℕ, ◌+◌, ◌-◌, ◌^◌, ◌<◌, ◌≤◌, List, ◌∷◌, ◌++◌, take, drop, length, get_or, ap, sym, ◌∙◌, arith, subst, add-one}
use Rattle.std.specs.Int.{w64, to_be_bytes, from_be_bytes}
use Rattle.std.proofs.Math.Seq.{drop-cons, get_or-append_seam}
use Rattle.std.proofs.lemmas.List.{length-append, length-drop, take-append-drop, take_all, get_or-drop}
use Rattle.std.proofs.lemmas.Nat.{be_bytes_8}
use Rattle.srm_names.specs.declared.limits.TheConstants.{MEMBERS}
use Rattle.srm_window.specs.Senders.{Numbered, numbered}
use Rattle.srm_guard.specs.Seals.{with_number, number_at, IsNumber, HasNoNumber}

pub length_number : (n : Numbered) (datagram : List ℕ) → length (with_number n datagram) ≡ length datagram + 9
length_number n datagram = length-append datagram (n.sender ∷ to_be_bytes w64 n.counter)

-- fewer bytes than a number has
pub no_number_short : (text : List ℕ) → length text < 9 → HasNoNumber text
no_number_short text few n datagram is_number is = omega (arith, ap length is, length_number n datagram)

-- the byte of the sender
sender_at : (n : Numbered) (datagram text : List ℕ) (count : ℕ) → count + 9 ≡ length text → text ≡ with_number n datagram → get_or text count 0 ≡ n.sender
sender_at n datagram text count all is =
    let long : count ≡ length datagram = omega (arith, ap length is, length_number n datagram) in
    ap (λ xs. get_or xs count 0) is ∙ ap (λ k. get_or (with_number n datagram) k 0) long ∙ get_or-append_seam datagram n.sender (to_be_bytes w64 n.counter) 0

pub no_number_stranger : (text : List ℕ) (count : ℕ) → count + 9 ≡ length text → MEMBERS ≤ get_or text count 0 → HasNoNumber text
no_number_stranger text count all stranger n datagram is_number is = omega (arith, sender_at n datagram text count all is, is_number.0, stranger)

-- what stands there
pub is_number : (text : List ℕ) (count sender counter : ℕ) → count + 9 ≡ length text → ((i : ℕ) → get_or text i 0 < 256) → sender ≡ get_or text count 0 → counter ≡ from_be_bytes w64 (drop (count + 1) text) → text ≡ with_number (numbered sender counter) (take count text)
is_number text count sender counter all bytes at is =
    let back : to_be_bytes w64 counter ≡ drop (count + 1) text = be_bytes_8 (drop (count + 1) text) counter (omega (arith, length-drop (count + 1) text)) (λ i. rw (get_or-drop) (bytes (count + 1 + i))) is in
    let cell : drop count text ≡ get_or text count 0 ∷ drop (count + 1) text = drop-cons text count 0 (omega arith) ∙ ap (λ k. get_or text count 0 ∷ drop k text) (sym (add-one count)) in
    sym (take-append-drop count text) ∙ ap (λ xs. take count text ++ xs) (cell ∙ ap (λ s. s ∷ drop (count + 1) text) (sym at) ∙ ap (λ xs. sender ∷ xs) (sym back))

pub number_is : (text : List ℕ) (count sender counter : ℕ) → count + 9 ≡ length text → sender ≡ get_or text count 0 → counter ≡ from_be_bytes w64 (drop (count + 1) text) → numbered sender counter ≡ number_at text
unfolding number_at
number_is text count sender counter all at is =
    let here : count ≡ length text - 9 = omega arith in
    let behind : count + 1 ≡ length text - 8 = omega arith in
    ap (λ s. numbered s counter) (at ∙ ap (λ k. get_or text k 0) here) ∙ ap (λ c. numbered (get_or text (length text - 9) 0) c) (is ∙ ap (λ k. from_be_bytes w64 (drop k text)) behind)

-- it is a number
pub number_fits : (text : List ℕ) (sender counter : ℕ) → sender < MEMBERS → counter < 2 ^ 64 → numbered sender counter ≡ number_at text → IsNumber (number_at text)
number_fits text sender counter member small is = subst IsNumber is (member, small)

-- the last bytes of a text, as a slice has them
pub counter_is : (text : List ℕ) (n k counter : ℕ) → length text ≤ n + k → counter ≡ from_be_bytes w64 (take n (drop k text)) → counter ≡ from_be_bytes w64 (drop k text)
counter_is text n k counter all is = is ∙ ap (from_be_bytes w64) (take_all n (drop k text) (omega (arith, length-drop k text)))
