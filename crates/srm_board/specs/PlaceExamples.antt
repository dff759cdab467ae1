-- Which names a board has, in examples.
use Rattle.std.specs.Prelude.{◌≡◌, ℕ, true, false, Some, [], ◌∷◌, codes, refl}
use Rattle.std.proofs.Common.{ap, inl, inr, arith}
use Rattle.std.specs.Fmt.{digits}
use Rattle.std.specs.Net.Socket.{socket_port}
use Rattle.std.specs.Net.Text.{hex, hex_groups_text, ipv6_text}
use Rattle.std.specs.declared.net.socket_addr.SocketAddr.{SocketAddr}
use Rattle.std.specs.declared.net.socket_addr.SocketAddr.TheVariants.{V4, V6}
use Rattle.srm_slate.specs.Guards.{Server, is_known}
use Rattle.srm_board.specs.Places.{hosts_of, IsServedAt}

abbrev at : ℕ → ℕ → ℕ → ℕ → ℕ → SocketAddr
at a b c d port = V4 (record { ip = record { octets = a ∷ b ∷ c ∷ d ∷ [] }; port = port })

-- by IPv6: the address whose first two segments are these, and whose last is 1
abbrev at_one : ℕ → ℕ → ℕ → SocketAddr
at_one first second port = V6 (record { ip = record { segments = first ∷ second ∷ 0 ∷ 0 ∷ 0 ∷ 0 ∷ 0 ∷ 1 ∷ [] }; port = port; flowinfo = 0; scope_id = 0 })

on_this_machine : hosts_of (at 127 0 0 1 8080) ≡ codes "127.0.0.1:8080" ∷ codes "localhost:8080" ∷ []
unfolding digits
on_this_machine = refl

at_the_usual_port : hosts_of (at 127 0 0 1 80) ≡ codes "127.0.0.1:80" ∷ codes "127.0.0.1" ∷ codes "localhost:80" ∷ codes "localhost" ∷ []
unfolding digits
at_the_usual_port = refl

elsewhere : hosts_of (at 192 0 2 1 8080) ≡ codes "192.0.2.1:8080" ∷ []
unfolding digits
elsewhere = refl

elsewhere_at_the_usual_port : hosts_of (at 192 0 2 1 80) ≡ codes "192.0.2.1:80" ∷ codes "192.0.2.1" ∷ []
unfolding digits
elsewhere_at_the_usual_port = refl

on_this_machine_by_ipv6 : hosts_of (at_one 0 0 80) ≡ codes "[::1]:80" ∷ codes "[::1]" ∷ codes "localhost:80" ∷ codes "localhost" ∷ []
unfolding digits hex hex_groups_text ipv6_text
on_this_machine_by_ipv6 = refl

elsewhere_by_ipv6 : hosts_of (at_one 0x2001 0xdb8 80) ≡ codes "[2001:db8::1]:80" ∷ codes "[2001:db8::1]" ∷ []
unfolding digits hex hex_groups_text ipv6_text
elsewhere_by_ipv6 = refl

-- the server of a board at one address
abbrev server : SocketAddr → Server
server http = record { hosts = hosts_of http; is_anywhere = false; root = codes "/" }

nobody_asks_for_localhost_there : is_known (server (at 192 0 2 1 80)) (Some (codes "localhost")) ≡ false
unfolding digits
nobody_asks_for_localhost_there = refl

but_on_this_machine : is_known (server (at 127 0 0 1 80)) (Some (codes "localhost")) ≡ true
unfolding digits
but_on_this_machine = refl

the_system_chooses_a_port : IsServedAt (at 127 0 0 1 0) (at 127 0 0 1 40000)
the_system_chooses_a_port = inr (refl, refl, (refl, refl))

where_none_was_asked_for : IsServedAt (at 127 0 0 1 8080) (at 127 0 0 1 40000) → ⊥
where_none_was_asked_for (inl same) = let k : 40000 ≡ 8080 = ap socket_port same in absurd (omega (arith, k))
where_none_was_asked_for (inr (none, _, _)) = let k : 8080 ≡ 0 = none in absurd (omega (arith, k))
