-- What steps and runs answer, by number and values.
use Rattle.std.specs.Prelude.{ℕ, List, [], ◌∷◌, ◌++◌, Ok, Err, Result}
use Rattle.cores.specs.declared.interface.Request.{Request}
use Rattle.cores.specs.Acting.{request_numbers}
use Rattle.records.specs.declared.faults.Refusal.{Refusal}
use Rattle.records.specs.declared.faults.Refusal.TheVariants.{BadSetting as Unfit, LogFault as Faulty}
use Rattle.records.specs.Faults.{session_fault, bad_setting, log_fault, refusal}
use Rattle.replayer.specs.declared.answers.Done.{Done}
use Rattle.replayer.specs.declared.answers.Ended.{Ended}
use Rattle.replayer.specs.declared.answers.Ended.TheVariants.{Finished, Stopped}
use Rattle.replayer.specs.declared.answers.StepRefusal.{StepRefusal}
use Rattle.replayer.specs.declared.answers.StepRefusal.TheVariants.{NoSuchCore, Halted, NoSuchCell, Waits, Replayed, BadSetting, LogFault}
use Rattle.records.specs.declared.format.Source.{Source}

-- a refusal of a reader, as one of a step
abbrev pub step_refusal_from : Refusal → StepRefusal
step_refusal_from Unfit = BadSetting
step_refusal_from (Faulty e) = LogFault e

-- 6, the source core and the source count
abbrev pub wait_numbers : Source → List ℕ
wait_numbers s = 6 ∷ s.core ∷ s.count ∷ []

-- a step's refusal by its number and values
abbrev pub step_refusal : StepRefusal → List ℕ
step_refusal NoSuchCore = 1 ∷ []
step_refusal Halted = 2 ∷ []
step_refusal NoSuchCell = 4 ∷ []
step_refusal (Waits s) = wait_numbers s
step_refusal Replayed = 7 ∷ []
step_refusal BadSetting = bad_setting
step_refusal (LogFault e) = log_fault (session_fault e)

-- 0, the request, the count and the number brought
abbrev pub done_numbers : Request → ℕ → ℕ → List ℕ
done_numbers request count number = 0 ∷ (request_numbers request ++ (count ∷ number ∷ []))

abbrev pub step_numbers : Result Done StepRefusal → List ℕ
step_numbers (Ok d) = done_numbers d.request d.count d.number
step_numbers (Err e) = step_refusal e

-- finished 0 or stopped 1, with the steps, or the refusal
abbrev pub run_numbers : Result Ended Refusal → List ℕ
run_numbers (Ok (Finished steps)) = 0 ∷ steps ∷ []
run_numbers (Ok (Stopped steps)) = 1 ∷ steps ∷ []
run_numbers (Err e) = refusal e
