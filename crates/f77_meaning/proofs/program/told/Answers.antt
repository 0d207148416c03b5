use Rattle.std.proofs.Common.{◌≡◌, Err, rules}
use Rattle.interp_steps.specs.declared.stop.Stop.TheVariants.{Spent, Ended, Undefined, OutOfMemory}
use Rattle.interp_steps.specs.Worlds.{world_of}
use Rattle.interp_calls.specs.declared.halt.Halt.TheVariants.{Stop, WriteFault}
use Rattle.f77_meaning.specs.declared.runs.InterpretRefused.TheVariants as refused
use Rattle.f77_meaning.proofs.Telling.{tells_going, tells_ended, tells_undefined, tells_fault, tells_wanting}
use Rattle.f77_meaning.proofs.program.told.Goals as goal

pub returns-in-Err-Stop-Spent-clause-told : goal.returns-in-Err-Stop-Spent-clause-told
returns-in-Err-Stop-Spent-clause-told c = λ start now o none reached not.
    let is : c.args.end ≡ Err (Stop Spent) = search rules in
    tells_going c.args.steps start now (world_of c.args.state.now) o c.args.end none reached is

pub returns-in-Err-Stop-Ended-clause-told : goal.returns-in-Err-Stop-Ended-clause-told
returns-in-Err-Stop-Ended-clause-told c = λ start now o none reached not.
    let is : c.args.end ≡ Err (Stop (Ended c.in-Err-Stop-Ended.status)) = search rules in
    tells_ended c.args.steps start now (world_of c.args.state.now) o c.args.end none reached c.in-Err-Stop-Ended.status is

pub returns-in-Err-Stop-Undefined-clause-told : goal.returns-in-Err-Stop-Undefined-clause-told
returns-in-Err-Stop-Undefined-clause-told c = λ start now o none reached not.
    let is : c.args.end ≡ Err (Stop (Undefined c.in-Err-Stop-Undefined.number)) = search rules in
    tells_undefined c.args.steps start now (world_of c.args.state.now) o c.args.end none reached c.in-Err-Stop-Undefined.number c.saturating_sub-step.result c.undefinedness-cause.result is (search rules) (search rules)

pub returns-in-Err-Stop-OutOfMemory-clause-told : goal.returns-in-Err-Stop-OutOfMemory-clause-told
returns-in-Err-Stop-OutOfMemory-clause-told c = λ start now o none reached not.
    let is : c.args.end ≡ Err (Stop OutOfMemory) = search rules in
    tells_wanting c.args.steps start now (world_of c.args.state.now) o c.args.end none reached refused.OutOfMemory is not

pub returns-in-Err-WriteFault-clause-told : goal.returns-in-Err-WriteFault-clause-told
returns-in-Err-WriteFault-clause-told c = λ start now o none reached not.
    let is : c.args.end ≡ Err WriteFault = search rules in
    tells_fault c.args.steps start now (world_of c.args.state.now) o c.args.end none reached refused.WriteFault is not
