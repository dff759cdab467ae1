-- What a member prints at its end.
use Rattle.std.specs.Prelude.{ℕ, Bool, List, [], ◌∷◌, ◌++◌, map, flat_map, Some, Vec}
use Rattle.std.specs.Global.{Global}
use Rattle.std.specs.List.{enumerate_from, list_any}
use Rattle.srm_names.specs.declared.page_msg.PageMsg.{PageMsg}
use Rattle.srm_names.specs.PageFeeds.{is_close}
use Rattle.srm_node.specs.declared.working.Worked.{Worked}
use Rattle.srm_script.specs.TookLines.{took_text, gone_text}

-- the line of a message that the worker of a slot took
abbrev pub took_line : ℕ → ℕ → PageMsg → List ℕ
took_line me slot message = took_text me slot (Some message) ++ 10 ∷ []

-- a line for each message that it took, in order
abbrev pub slot_lines : ℕ → ℕ → List PageMsg → List ℕ
slot_lines me slot list = flat_map (took_line me slot) list

-- the lines of all workers, by slot from 0
abbrev pub worker_lines : ℕ → List (List PageMsg) → List ℕ
worker_lines me lists = flat_map (λ worker. slot_lines me worker.0 worker.1) (enumerate_from 0 lists)

-- the line that the member is gone
abbrev pub gone_line : ℕ → List ℕ
gone_line me = gone_text me ++ 10 ∷ []

-- what is printed at a member's end
abbrev pub taken_text : ℕ → List (List PageMsg) → List ℕ
taken_text me lists = worker_lines me lists ++ gone_line me

-- what the workers took
abbrev pub lists_of : List (Worked (Vec PageMsg Global)) → List (List PageMsg)
lists_of workers = map (λ worker. worker.list.items) workers

-- whether the list of a worker has the close, behind which nothing comes
abbrev pub has_close : Worked (Vec PageMsg Global) → Bool
has_close worker = list_any is_close worker.list.items
