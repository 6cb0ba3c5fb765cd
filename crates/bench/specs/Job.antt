-- The words by which jobs are asked for.
use Rattle.std.specs.Prelude.{◌≡◌, ℕ, List, Ok, IfOk, codes, Result}
use Rattle.bench.specs.declared.job.Job.{Job}
use Rattle.bench.specs.declared.job.Job.TheVariants.{Send, Receive, Loop, Tps, Chart}
use Rattle.bench.specs.declared.job.UnknownJob.{UnknownJob}

abbrev pub name_of : Job → List ℕ
name_of Send = codes "send"
name_of Receive = codes "receive"
name_of Loop = codes "loop"
name_of Tps = codes "tps"
name_of Chart = codes "chart"

-- a word asks for the job that it names, and each job is asked for by its name
pub record Names (word : List ℕ) (r : Result Job UnknownJob) : Type 0 where
  pub sound : IfOk r (λ job. word ≡ name_of job)
  pub whole : (job : Job) → word ≡ name_of job → r ≡ Ok job
