-- Texts and their lines, how a member ends, what it prints then, and the random numbers of a seed.
use Rattle.std.specs.Prelude.{◌≡◌, true, false, [], ◌∷◌, ◌++◌, map, codes, refl, Some, None, Ok, Err}
use Rattle.std.specs.Fmt.{digits}
use Rattle.std.proofs.Common.{inl, inr}
use Rattle.std.specs.declared.io.ErrorKind.TheVariants as kind
use Rattle.rand_core.specs.Pcg32Seed.{pcg32_seed}
use Rattle.rand_core.specs.Steps.{u32_at, word_bytes}
use Rattle.srm_names.specs.declared.page_msg.PageMsg.TheVariants.{Open, Draw, Left, Close}
use Rattle.srm_script.specs.declared.fault.ScriptFault.TheVariants.{StandardInput, Memory}
use Rattle.srm_node.specs.declared.fault.NodeFault.TheVariants as node
use Rattle.srm_member.specs.declared.fault.MemberFault.TheVariants.{Script, Wire, Turns, Record}
use Rattle.srm_member.specs.Lines.{lines_of, each_fourth, bad_line}
use Rattle.srm_member.specs.Statuses.{fault_of, fault_of_lists, fault_of_live, fault_of_binding, status_of_member, IsRecordedEnd}
use Rattle.srm_entries.specs.Configs.{Config}
use Rattle.srm_member.specs.MemberRuns.{AreBySeed, FaultKeeps}
use Rattle.srm_member.specs.TakenText.{taken_text}
use Rattle.srm_timers.specs.Seeds.{words_of}

no_lines : lines_of [] ≡ []
no_lines = refl

an_empty_line : lines_of (10 ∷ []) ≡ [] ∷ []
an_empty_line = refl

the_last_lacks_its_end : lines_of (97 ∷ 10 ∷ 10 ∷ 98 ∷ 99 ∷ []) ≡ (97 ∷ []) ∷ [] ∷ (98 ∷ 99 ∷ []) ∷ []
the_last_lacks_its_end = refl

the_last_has_its_end : lines_of (97 ∷ 10 ∷ 98 ∷ 99 ∷ 10 ∷ []) ≡ (97 ∷ []) ∷ (98 ∷ 99 ∷ []) ∷ []
the_last_has_its_end = refl

the_second_of_six : each_fourth 1 ((0 ∷ []) ∷ (1 ∷ []) ∷ (2 ∷ []) ∷ (3 ∷ []) ∷ (4 ∷ []) ∷ (5 ∷ []) ∷ []) ≡ (1 ∷ []) ∷ (5 ∷ []) ∷ []
the_second_of_six = refl

none_is_too_long : bad_line 1 ([] ∷ (97 ∷ []) ∷ []) ≡ None
none_is_too_long = refl

statuses : map status_of_member (Script StandardInput ∷ Script Memory ∷ Wire ∷ Turns ∷ Record ∷ []) ≡ 1 ∷ 4 ∷ 3 ∷ 4 ∷ 1 ∷ []
statuses = refl

a_worker_without_memory : fault_of (Ok tt) true ∷ fault_of (Err node.Wire) true ∷ [] ≡ Some (Script Memory) ∷ Some (Script Memory) ∷ []
a_worker_without_memory = refl

the_node_s_own_end : fault_of (Ok tt) false ∷ fault_of (Err node.Memory) false ∷ fault_of (Err node.Wire) false ∷ fault_of (Err node.Turns) false ∷ [] ≡ None ∷ Some (Script Memory) ∷ Some Wire ∷ Some Turns ∷ []
the_node_s_own_end = refl

a_list_without_its_close : fault_of_lists None true ∷ fault_of_lists None false ∷ fault_of_lists (Some Turns) false ∷ [] ≡ None ∷ Some (Script Memory) ∷ Some Turns ∷ []
a_list_without_its_close = refl

a_live_run : fault_of_live (Some Wire) (Some Memory) ∷ fault_of_live (Some Turns) (Some StandardInput) ∷ fault_of_live None (Some StandardInput) ∷ fault_of_live None None ∷ [] ≡ Some (Script Memory) ∷ Some Turns ∷ Some (Script StandardInput) ∷ None ∷ []
a_live_run = refl

-- a record that isn't whole is told of a whole run alone
a_record_of_a_whole_run : IsRecordedEnd None (Some Record)
a_record_of_a_whole_run = inr (inl refl)

not_of_spent_turns : IsRecordedEnd (Some Turns) (Some Record) → ⊥
not_of_spent_turns h = cc (h)

-- and all was printed then
a_record_after_a_line : FaultKeeps Record (Unit {0}) (Some []) (Some (10 ∷ []))
a_record_after_a_line = inr (inl (refl, tt))

an_address_in_use : fault_of_binding kind.AddrInUse ≡ Wire
an_address_in_use = refl

a_system_without_memory : fault_of_binding kind.OutOfMemory ≡ Script Memory
a_system_without_memory = refl

the_words_that_7_starts : words_of 7 ≡ record { state = 75399758779710541671558023171123802774; increment = 83908065895571479823384977301799156541 }
unfolding words_of u32_at pcg32_seed word_bytes
the_words_that_7_starts = refl

-- a member that set no timer consumed no random number
no_timer_was_set : (c : Config) → AreBySeed 7 c []
no_timer_was_set c = (words_of 7, refl)

and_consumed_none : (c : Config) (h : AreBySeed 7 c []) → h.0 ≡ words_of 7
and_consumed_none c h = h.1

a_member_that_is_gone : taken_text 0 ([] ∷ [] ∷ []) ≡ codes "gone 0" ++ 10 ∷ []
unfolding digits
a_member_that_is_gone = refl

what_two_workers_took : taken_text 1 ((Open (record { creator = 0; number = 0 }) ∷ Draw (record { name = record { stream = record { source = 0; page = record { creator = 0; number = 0 } }; number = 1 }; stamp = 5; body = codes "a door" }) ∷ Close ∷ []) ∷ (Left 0 ∷ []) ∷ [])
    ≡ codes "took 1 0 open 0.0" ++ 10 ∷ codes "took 1 0 draw 0 1 a door" ++ 10 ∷ codes "took 1 0 close" ++ 10 ∷ codes "took 1 1 left 0" ++ 10 ∷ codes "gone 1" ++ 10 ∷ []
unfolding digits
what_two_workers_took = refl
