-- What one more call does to what the calls say of a member.
use Rattle.std.proofs.Common.{◌≡◌, ◌≢◌, ◌<◌, ℕ, inl, inr, get_or, List, [], ◌∷◌, ◌++◌, length, Option, Some, None, Bool, true, false, refl, sym, ap, ◌∙◌, arith}
use Rattle.std.specs.Prelude.{slice_set, replicate, if◌then◌else◌, ◌||◌, ◌==◌}
use Rattle.std.specs.List.{filter_map, cons_option}
use Rattle.std.proofs.Math.Bool.{or-false, or-true}
use Rattle.std.proofs.lemmas.List.{append-nil, length-set, get_or-set_same, get_or-set_other, length-replicate, get_or-replicate}
use Rattle.std.proofs.lemmas.List.Elements.{filter_map-append}
use Rattle.std.proofs.lemmas.Option.{slice_get-get_or, get_or_from_slice_get}
use Rattle.std.proofs.lemmas.Bool.{ne_eqb, eq-eqb, cases_eq}
use Rattle.srm_names.specs.declared.limits.TheConstants.{MEMBERS}
use Rattle.srm_names.specs.Histories.{first_best}
use Rattle.srm_names.proofs.Snoc.{later, first_best-snoc, list_any-snoc}
use Rattle.srm_distance.specs.declared.returned.Returned.{Returned}
use Rattle.srm_distance.specs.declared.heard_message.HeardMessage.{HeardMessage}
use Rattle.srm_distance.specs.declared.peer.Peer.{Peer}
use Rattle.srm_distance.specs.Calls.{DistanceCall, Heard, Forgot}
use Rattle.srm_distance.specs.Distance.{returned_at, returned, newest}
use Rattle.srm_distance.specs.Echoes.{message_from, latest, forgets, is_forgotten}
use Rattle.srm_distance.specs.Peers.{peer_of}
use Rattle.srm_distance.specs.Content.{DistancesContent}
use Rattle.srm_distance.specs.Fits.{DistancesFit, DistancesAdd}

-- the best so far, and perhaps one more
abbrev pub kept_with : {X : Type 0} → (X → ℕ) → Option X → Option X → Option X
kept_with key kept None = kept
kept_with key kept (Some y) = Some (later key kept y)

pub first_best-found : {X C : Type 0} (key : X → ℕ) (f : C → Option X) (cs : List C) (c : C)
    → first_best key (filter_map f (cs ++ c ∷ [])) ≡ kept_with key (first_best key (filter_map f cs)) (f c)
first_best-found {X = X} key f cs c = ap (first_best key) (filter_map-append f cs (c ∷ [])) ∙ go (filter_map f cs) (f c)
  where
    go : (xs : List X) (o : Option X) → first_best key (xs ++ cons_option o []) ≡ kept_with key (first_best key xs) o
    go xs None = ap (first_best key) (append-nil xs)
    go xs (Some y) = first_best-snoc key xs y

own : {X : Type 0} (b : ℕ) (o : Option X) → (if b == b then o else None) ≡ o
own b o = rw (eq-eqb b b refl) refl

another : {X : Type 0} (a b : ℕ) (o : Option X) → a ≢ b → (if a == b then o else None) ≡ None
another a b o ne = rw (ne_eqb a b ne) refl

pub newest_heard : (calls : List DistanceCall) (b sent : ℕ) (echo : Option (ℕ × ℕ)) (now : ℕ)
    → newest (calls ++ Heard b sent echo now ∷ []) b ≡ kept_with (λ (r : Returned). r.t1) (newest calls b) (returned_at now echo)
newest_heard calls b sent echo now =
    first_best-found (λ (r : Returned). r.t1) (returned b) calls (Heard b sent echo now)
    ∙ ap (kept_with (λ (r : Returned). r.t1) (newest calls b)) (own b (returned_at now echo))

pub latest_heard : (calls : List DistanceCall) (b sent : ℕ) (echo : Option (ℕ × ℕ)) (now : ℕ)
    → latest (calls ++ Heard b sent echo now ∷ []) b ≡ Some (later (λ (r : HeardMessage). r.sent) (latest calls b) (record { sent = sent; came = now }))
latest_heard calls b sent echo now =
    first_best-found (λ (r : HeardMessage). r.sent) (message_from b) calls (Heard b sent echo now)
    ∙ ap (kept_with (λ (r : HeardMessage). r.sent) (latest calls b)) (own b (Some (record { sent = sent; came = now })))

pub same_peer : (r r' : Option Returned) (s s' : Option HeardMessage) (f f' : Bool) → r ≡ r' → s ≡ s' → f ≡ f'
    → ◌≡◌ {A = Peer} (record { returned = r; newest_message = s; forgotten = f }) (record { returned = r'; newest_message = s'; forgotten = f' })
same_peer r r' s s' f f' p q e = cc

pub peer_of_forgot : (calls : List DistanceCall) (b : ℕ) → peer_of (calls ++ Forgot b ∷ []) b ≡ record { returned = newest calls b; newest_message = latest calls b; forgotten = true }
peer_of_forgot calls b =
    same_peer _ _ _ _ _ _
    (first_best-found (λ (r : Returned). r.t1) (returned b) calls (Forgot b))
    (first_best-found (λ (r : HeardMessage). r.sent) (message_from b) calls (Forgot b))
    (list_any-snoc (forgets b) calls (Forgot b) ∙ ap (λ x. is_forgotten calls b || x) (eq-eqb b b refl) ∙ or-true (is_forgotten calls b))

-- a call that is about another member
peer_of-other : (calls : List DistanceCall) (c : DistanceCall) (b : ℕ) → returned b c ≡ None → message_from b c ≡ None → forgets b c ≡ false → peer_of (calls ++ c ∷ []) b ≡ peer_of calls b
peer_of-other calls c b r s f =
    same_peer _ _ _ _ _ _
    (first_best-found (λ (r : Returned). r.t1) (returned b) calls c ∙ ap (kept_with (λ (r : Returned). r.t1) (newest calls b)) r)
    (first_best-found (λ (r : HeardMessage). r.sent) (message_from b) calls c ∙ ap (kept_with (λ (r : HeardMessage). r.sent) (latest calls b)) s)
    (list_any-snoc (forgets b) calls c ∙ ap (λ x. is_forgotten calls b || x) f ∙ or-false (is_forgotten calls b))

pub heard-other : (a sent : ℕ) (echo : Option (ℕ × ℕ)) (now : ℕ) (calls : List DistanceCall) (b : ℕ) → a ≢ b → peer_of (calls ++ Heard a sent echo now ∷ []) b ≡ peer_of calls b
heard-other a sent echo now calls b ne = peer_of-other calls (Heard a sent echo now) b (another a b (returned_at now echo) ne) (another a b (Some (record { sent = sent; came = now })) ne) refl

pub forgot-other : (a : ℕ) (calls : List DistanceCall) (b : ℕ) → a ≢ b → peer_of (calls ++ Forgot a ∷ []) b ≡ peer_of calls b
forgot-other a calls b ne = peer_of-other calls (Forgot a) b refl refl (ne_eqb a b ne)

pub kept_at : (least me : ℕ) (calls : List DistanceCall) (d : DistancesContent) (a : ℕ) (p : Peer) → DistancesFit least me calls d → a < MEMBERS → get_or d.peers a p ≡ peer_of calls a
kept_at least me calls d a p h lt = get_or_from_slice_get d.peers a (peer_of calls a) p (h.each a lt)

abbrev pub nobody : Peer
nobody = record { returned = None; newest_message = None; forgotten = false }

-- A call that is about one member writes its place in the table.
pub adds_at : (call : DistanceCall) (d : DistancesContent) (a place : ℕ) (peer : Peer) → place ≡ a → place < MEMBERS
    → ((calls : List DistanceCall) → get_or d.peers place nobody ≡ peer_of calls a → peer ≡ peer_of (calls ++ call ∷ []) a)
    → ((calls : List DistanceCall) (b : ℕ) → a ≢ b → peer_of (calls ++ call ∷ []) b ≡ peer_of calls b)
    → DistancesAdd call d (record { me = d.me; least = d.least; peers = slice_set d.peers place peer })
adds_at call d a place peer at lt here other = record {
  me_stays = refl;
  fits = λ least me calls h. record {
    least_is = h.least_is;
    me_is = h.me_is;
    size = length-set d.peers place peer ∙ h.size;
    each = λ b below.
        let within : b < length (slice_set d.peers place peer) = omega (arith, length-set d.peers place peer, h.size) in
        slice_get-get_or (slice_set d.peers place peer) b peer within
        ∙ ap Some (elim (cases_eq place b) [
          | inl same ↦ (ap (λ k. get_or (slice_set d.peers place peer) k peer) (sym same)
              ∙ get_or-set_same d.peers place peer peer (omega (arith, h.size))
              ∙ here calls (kept_at least me calls d place nobody h lt ∙ ap (peer_of calls) at)
              ∙ ap (peer_of (calls ++ call ∷ [])) (sym at ∙ same))
          | inr differ ↦ (get_or-set_other d.peers place b peer peer (λ e. differ (sym e))
              ∙ kept_at least me calls d b peer h below
              ∙ sym (other calls b (λ e. differ (at ∙ e))))
        ]);
  };
}

-- what is made for a member that wasn't heard
pub fits_new : (least me : ℕ) (p : Peer) → ((b : ℕ) → p ≡ peer_of [] b) → DistancesFit least me [] (record { me = me; least = least; peers = replicate 32 p })
fits_new least me p h = record {
  least_is = refl;
  me_is = refl;
  size = refl;
  each = λ b below. slice_get-get_or (replicate 32 p) b p (omega (arith, length-replicate 32 p)) ∙ ap Some (get_or-replicate 32 b p p below ∙ h b);
}
