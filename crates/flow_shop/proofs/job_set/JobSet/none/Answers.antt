use Rattle.std.proofs.Common.{◌≡◌, ℕ, ◌-◌, zero, suc, false, slice_index_or, replicate, refl}
use Rattle.flow_limits.specs.Limits.{most_jobs}
use Rattle.flow_shop.proofs.job_set.JobSet.none.Goals as goal

falses : (n i : ℕ) → slice_index_or (replicate n false) i false ≡ false
falses zero i = refl
falses (suc n) zero = refl
falses (suc n) (suc i) = falses n i

pub returns-clause-empty : goal.returns-clause-empty
returns-clause-empty c job = falses most_jobs (job - 1)
