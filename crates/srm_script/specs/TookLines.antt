-- The lines that tell what a page worker took, and that a member is gone.
use Rattle.std.specs.Prelude.{ℕ, ◌&&◌, nat_le, if◌then◌else◌, List, ◌++◌, map, codes, Option, None, Some}
use Rattle.std.specs.Fmt.{decimal}
use Rattle.srm_names.specs.declared.page.Page.{Page}
use Rattle.srm_names.specs.declared.page_msg.PageMsg.{PageMsg}
use Rattle.srm_names.specs.declared.page_msg.PageMsg.TheVariants.{Open, Draw, Left, Close}

-- a page is the number of its creator, a dot, and the number of the page
abbrev pub page_text : Page → List ℕ
page_text page = decimal page.creator ++ (codes "." ++ decimal page.number)

-- a byte of a body is shown as it is if it is printable ASCII, from 20 to 7E, and else as a question mark
abbrev pub shown_byte : ℕ → ℕ
shown_byte byte = if nat_le 0x20 byte && nat_le byte 0x7E then byte else 63

-- a body is shown byte by byte
abbrev pub body_text : List ℕ → List ℕ
body_text body = map shown_byte body

-- a message of a page feed
abbrev pub message_text : PageMsg → List ℕ
message_text (Open page) = codes "open " ++ page_text page
message_text (Draw drawop) = codes "draw " ++ (decimal drawop.name.stream.source ++ (codes " " ++ (decimal drawop.name.number ++ (codes " " ++ body_text drawop.body))))
message_text (Left member) = codes "left " ++ decimal member
message_text Close = codes "close"

-- a message, or that there is none
abbrev pub answer_text : Option PageMsg → List ℕ
answer_text None = codes "none"
answer_text (Some message) = message_text message

-- the worker of a member's slot took a message, or nothing
abbrev pub took_text : ℕ → ℕ → Option PageMsg → List ℕ
took_text member slot message = codes "took " ++ (decimal member ++ (codes " " ++ (decimal slot ++ (codes " " ++ answer_text message))))

-- a member is gone
abbrev pub gone_text : ℕ → List ℕ
gone_text member = codes "gone " ++ decimal member
