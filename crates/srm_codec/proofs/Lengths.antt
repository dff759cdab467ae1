-- How many bytes the lists of a session message have.
use Rattle.std.proofs.Common.{◌≡◌, ℕ, ◌*◌, List, [], ◌∷◌, ◌++◌, length, refl, arith}
use Rattle.std.specs.Prelude.{◌==◌, Bool, true, false, if◌then◌else◌}
use Rattle.std.specs.Int.{w32, to_be_bytes}
use Rattle.srm_codec.specs.declared.datagram.Datagram.{Datagram}
use Rattle.srm_codec.specs.declared.datagram.Datagram.TheVariants.{Data, Request, Repair, Session}
use Rattle.srm_codec.specs.Spelling.{head, page_bytes, name_bytes, drawop_bytes, echo_bytes, request_bytes, spelling, length_of}
use Rattle.std.specs.List.{flat_map}
use Rattle.std.proofs.lemmas.List.{length-append}

pub length-flat_map : {X : Type 0} (f : X → List ℕ) (n : ℕ) → ((x : X) → length (f x) ≡ n) → (xs : List X) → length (flat_map f xs) ≡ n * length xs
length-flat_map f n each [] = omega arith
length-flat_map f n each (x ∷ xs) = omega (arith, length-append (f x) (flat_map f xs), each x, length-flat_map f n each xs)

-- a datagram has as many bytes as its length says
pub length-spelling : (session : ℕ) (g : Datagram) → length_of g ≡ length (spelling session g)
unfolding spelling head request_bytes drawop_bytes name_bytes page_bytes echo_bytes
length-spelling session (Data d) = omega arith
length-spelling session (Request sender name mask) = request (mask == 0)
  where
    request : (none : Bool) → (if none then 17 else 21) ≡ length (if none then head 1 2 session sender ++ name_bytes name else head 2 2 session sender ++ name_bytes name ++ to_be_bytes w32 mask)
    request true = refl
    request false = refl
length-spelling session (Repair sender d) = omega arith
length-spelling session (Session sender sent farewell shown rows echoes) =
    omega (arith, length-flat_map name_bytes 8 (λ n. refl) rows, length-flat_map echo_bytes 17 (λ e. refl) echoes, length-append (flat_map name_bytes rows) (length echoes ∷ flat_map echo_bytes echoes))
