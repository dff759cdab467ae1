-- What a page worker took, as bytes.
use Rattle.std.specs.Prelude.{ℕ, List, [], ◌∷◌, ◌++◌}
use Rattle.std.specs.Int.{w64, to_be_bytes}
use Rattle.srm_names.specs.declared.drawop.Drawop.{Drawop}
use Rattle.srm_names.specs.declared.page_msg.PageMsg.{PageMsg}
use Rattle.srm_names.specs.declared.page_msg.PageMsg.TheVariants as messages
use Rattle.srm_codec.specs.Spelling.{page_bytes, name_bytes}
use Rattle.srm_frames.specs.declared.format.TheConstants.{OPEN, DRAW, LEFT, CLOSE}

abbrev pub draw_text : Drawop → List ℕ
draw_text drawop = DRAW ∷ name_bytes drawop.name ++ to_be_bytes w64 drawop.stamp ++ drawop.body

abbrev pub message_text : PageMsg → List ℕ
message_text (messages.Open page) = OPEN ∷ page_bytes page
message_text (messages.Draw drawop) = draw_text drawop
message_text (messages.Left member) = LEFT ∷ member ∷ []
message_text messages.Close = CLOSE ∷ []
