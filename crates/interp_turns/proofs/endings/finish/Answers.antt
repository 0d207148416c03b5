use Rattle.std.proofs.Common.{ℕ, length, option_map, subst, OnOk}
use Rattle.interp_steps.specs.Frames.{frame_of}
use Rattle.interp_steps.specs.Stacks.{stack_of}
use Rattle.interp_turns.specs.Flows.{variable_of}
use Rattle.interp_turns.specs.Places.{here_of, Stands}
use Rattle.interp_turns.proofs.Ends.{store_path, branch_path, guard_path, sign_path, jump_path, choose_path, count_path, next_path, leave_path, halt_path, write_path}
use Rattle.interp_turns.proofs.Paths.{by_path, by_pure, always}
use Rattle.interp_turns.proofs.endings.finish.Goals as goal

pub returns-in-Store-clause-turn : goal.returns-in-Store-clause-turn
returns-in-Store-clause-turn c = λ u follows is. rw c.in-Store.is (by_path c.assign.result c.assign.new.here c.args.state.now c.assign.new.state _ _ (store_path u (frame_of c.args.frame.now) (here_of c.args.here.now) c.args.k c.args.control.now.statements.now follows (stack_of c.args.stack.now)) c.assign.ensures.turn)

pub returns-in-Branch-clause-turn : goal.returns-in-Branch-clause-turn
returns-in-Branch-clause-turn c = λ u follows is. rw c.in-Branch.is (by_pure c.branch-control.result c.branch-control.new.here c.args.state.now _ _ (branch_path u (frame_of c.args.frame.now) (here_of c.args.here.now) c.args.k c.args.control.now.statements.now follows c.in-Branch.otherwise (stack_of c.args.stack.now)) c.branch-control.ensures.turn)

pub returns-in-Guard-clause-turn : goal.returns-in-Guard-clause-turn
returns-in-Guard-clause-turn c = λ u follows is. rw c.in-Guard.is (by_pure c.guard.result c.guard.new.here c.args.state.now _ _ (guard_path u (frame_of c.args.frame.now) (here_of c.args.here.now) c.args.k c.args.control.now.statements.now follows (stack_of c.args.stack.now)) c.guard.ensures.turn)

pub returns-in-Sign-clause-turn : goal.returns-in-Sign-clause-turn
returns-in-Sign-clause-turn c = λ u follows is. rw c.in-Sign.is (by_pure c.sign.result c.sign.new.here c.args.state.now _ _ (sign_path u (frame_of c.args.frame.now) (here_of c.args.here.now) c.args.k c.args.control.now.statements.now follows c.in-Sign.negative c.in-Sign.zero c.in-Sign.positive (stack_of c.args.stack.now)) c.sign.ensures.turn)

pub returns-in-Jump-clause-turn : goal.returns-in-Jump-clause-turn
returns-in-Jump-clause-turn c = λ u follows is. rw c.in-Jump.is (by_pure c.jump.result c.jump.new.here c.args.state.now _ _ (jump_path u (frame_of c.args.frame.now) (here_of c.args.here.now) c.args.k c.args.control.now.statements.now follows c.in-Jump.target (stack_of c.args.stack.now)) c.jump.ensures.turn)

pub returns-in-Choose-clause-turn : goal.returns-in-Choose-clause-turn
returns-in-Choose-clause-turn c = λ u follows is. rw c.in-Choose.is (by_pure c.choose.result c.choose.new.here c.args.state.now _ _ (choose_path u (frame_of c.args.frame.now) (here_of c.args.here.now) c.args.k c.args.control.now.statements.now follows c.in-Choose.targets (stack_of c.args.stack.now)) c.choose.ensures.turn)

pub returns-in-Count-clause-turn : goal.returns-in-Count-clause-turn
returns-in-Count-clause-turn c = λ u follows is. rw c.in-Count.is (by_path c.count.result c.count.new.here c.args.state.now c.count.new.state _ _ (count_path u (frame_of c.args.frame.now) (here_of c.args.here.now) c.args.k c.args.control.now.statements.now follows c.in-Count.base (stack_of c.args.stack.now)) c.count.ensures.turn)

pub returns-in-Next-clause-turn : goal.returns-in-Next-clause-turn
returns-in-Next-clause-turn c = λ u follows is. rw c.in-Next.is (by_pure c.next.result c.next.new.here c.args.state.now _ _ (next_path u (frame_of c.args.frame.now) (here_of c.args.here.now) c.args.k c.args.control.now.statements.now follows (stack_of c.args.stack.now)) c.next.ensures.turn)

pub returns-in-Leave-clause-turn : goal.returns-in-Leave-clause-turn
returns-in-Leave-clause-turn c = λ u follows is. rw c.in-Leave.is (by_path c.leave.result c.args.here.now c.args.state.now c.args.state.now _ _ (leave_path u (frame_of c.args.frame.now) (here_of c.args.here.now) c.args.k c.args.control.now.statements.now follows (option_map variable_of c.args.variable) is (stack_of c.args.stack.now)) c.leave.ensures)

pub returns-in-Halt-clause-turn : goal.returns-in-Halt-clause-turn
returns-in-Halt-clause-turn c = λ u follows is. rw c.in-Halt.is (by_pure c.halt.result c.args.here.now c.args.state.now _ _ (halt_path u (frame_of c.args.frame.now) (here_of c.args.here.now) c.args.k c.args.control.now.statements.now follows (stack_of c.args.stack.now)) c.halt.ensures)

pub returns-in-Write-clause-turn : goal.returns-in-Write-clause-turn
returns-in-Write-clause-turn c = λ u follows is. rw c.in-Write.is (by_path c.write.result c.write.new.here c.args.state.now c.write.new.state _ _ (write_path u (frame_of c.args.frame.now) (here_of c.args.here.now) c.args.k c.args.control.now.statements.now follows (stack_of c.args.stack.now)) c.write.ensures.turn)

pub returns-in-Store-clause-stands : goal.returns-in-Store-clause-stands
returns-in-Store-clause-stands c = always c.assign.result (c.assign.ensures.stands c.requires.stands)

pub returns-in-Branch-clause-stands : goal.returns-in-Branch-clause-stands
returns-in-Branch-clause-stands c = always c.branch-control.result (c.branch-control.ensures.stands (length c.args.control.now.statements.now) c.requires.stands)

pub returns-in-Guard-clause-stands : goal.returns-in-Guard-clause-stands
returns-in-Guard-clause-stands c = always c.guard.result (c.guard.ensures.stands c.requires.stands)

pub returns-in-Sign-clause-stands : goal.returns-in-Sign-clause-stands
returns-in-Sign-clause-stands c = always c.sign.result (c.sign.ensures.stands (length c.args.control.now.statements.now) c.requires.stands)

pub returns-in-Jump-clause-stands : goal.returns-in-Jump-clause-stands
returns-in-Jump-clause-stands c = always c.jump.result (c.jump.ensures.stands (length c.args.control.now.statements.now) c.requires.stands)

pub returns-in-Choose-clause-stands : goal.returns-in-Choose-clause-stands
returns-in-Choose-clause-stands c = always c.choose.result (c.choose.ensures.stands c.requires.stands)

pub returns-in-Next-clause-stands : goal.returns-in-Next-clause-stands
returns-in-Next-clause-stands c = always c.next.result (c.next.ensures.stands c.requires.stands)

pub returns-in-Write-clause-stands : goal.returns-in-Write-clause-stands
returns-in-Write-clause-stands c = always c.write.result (c.write.ensures.stands c.requires.stands)

pub returns-in-Count-clause-stands : goal.returns-in-Count-clause-stands
returns-in-Count-clause-stands c = subst (λ (n : ℕ). OnOk c.count.result (Stands n c.count.new.here)) c.requires.stands.loops c.count.ensures.stands

pub returns-in-Leave-clause-stands : goal.returns-in-Leave-clause-stands
returns-in-Leave-clause-stands c = always c.leave.result c.requires.stands

pub returns-in-Halt-clause-stands : goal.returns-in-Halt-clause-stands
returns-in-Halt-clause-stands c = always c.halt.result c.requires.stands
