-- Where a board may be served, which addresses stand apart, and to whom others know where to send, in examples.
use Rattle.std.proofs.Common.{◌≡◌, ◌<◌, true, [], ◌∷◌, inl, inr, refl, sym, ◌∙◌, arith}
use Rattle.std.specs.Net.Socket.{socket_port}
use Rattle.std.specs.declared.net.socket_addr.SocketAddr.{SocketAddr}
use Rattle.srm_options.specs.Options.{IsFirstApart, NamesPort}
use Rattle.srm_options.specs.declared.board.BoardOptions.{BoardOptions}
use Rattle.srm_options.specs.Boards.{KeepsOut}

with_a_token_it_is_served_anywhere : (o : BoardOptions) → o.has_token ≡ true → KeepsOut o
with_a_token_it_is_served_anywhere o has = λ _. has

-- two members may have an address whose port the system chooses, and no other one
the_system_chooses_twice : (a : SocketAddr) → socket_port a ≡ 0 → IsFirstApart (a ∷ a ∷ [])
the_system_chooses_twice a none = inl none

not_one_port_twice : (a : SocketAddr) → socket_port a ≡ 9 → IsFirstApart (a ∷ a ∷ []) → ⊥
not_one_port_twice a nine (inl none) = let e : 0 ≡ 9 = sym none ∙ nine in omega (arith, e)
not_one_port_twice a nine (inr apart) = let first : 0 < 1 = omega arith in apart (0, first, refl)

who_is_alone_needs_no_port : (a : SocketAddr) → NamesPort (a ∷ []) 0
who_is_alone_needs_no_port a = inl refl

-- of two members the first has port 0, which only the other one may say of it
not_ones_own_port_0 : (a b : SocketAddr) → socket_port a ≡ 0 → NamesPort (a ∷ b ∷ []) 0 → ⊥
not_ones_own_port_0 a b none (inl alone) = let e : 2 ≡ 1 = alone in omega (arith, e)
not_ones_own_port_0 a b none (inr named) = named none

another_ones_port_may_be_0 : (a b : SocketAddr) → socket_port a ≡ 9 → NamesPort (a ∷ b ∷ []) 0
another_ones_port_may_be_0 a b nine = inr (λ none. let e : 0 ≡ 9 = sym none ∙ nine in omega (arith, e))
