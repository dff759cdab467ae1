-- Words that were pushed one after the other.
use Rattle.std.proofs.Common.{◌≡◌, ℕ, List, ◌++◌, ap, ◌∙◌, append_assoc}
use Rattle.std.specs.Prelude.{codes}
use Rattle.srm_room.specs.Rooms.{Content}
use Rattle.srm_room.specs.declared.room_settings.RoomSettings.{RoomSettings}
use Rattle.srm_rooms.specs.RoomLines.{numbered, shared_words, waits_words}

four : (old m1 m2 m3 new a b c d : List (List ℕ)) → m1 ≡ old ++ a → m2 ≡ m1 ++ b → m3 ≡ m2 ++ c → new ≡ m3 ++ d → new ≡ old ++ (a ++ (b ++ (c ++ d)))
four old m1 m2 m3 new a b c d p q r s =
    s ∙ ap (λ (ws : List (List ℕ)). ws ++ d) (r ∙ ap (λ (ws : List (List ℕ)). ws ++ c) (q ∙ ap (λ (ws : List (List ℕ)). ws ++ b) p)) ∙ simp append_assoc

-- what all members share
pub shared : (room : Content) (me session place : ℕ) (s : RoomSettings) (old m1 m2 m3 new : List (List ℕ)) → session ≡ room.session → place ≡ me → s ≡ room.settings
    → m1 ≡ old ++ numbered (codes "--session") session → m2 ≡ m1 ++ numbered (codes "--me") place → m3 ≡ m2 ++ waits_words s → new ≡ m3 ++ numbered (codes "--least-distance") s.least_distance
    → new ≡ old ++ shared_words room me
unfolding shared_words
shared room me session place s old m1 m2 m3 new of here by p q r t = rw (← of, ← here, ← by) (four old m1 m2 m3 new _ _ _ _ p q r t)
