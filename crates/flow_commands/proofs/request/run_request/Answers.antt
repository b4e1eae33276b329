use Rattle.flow_commands.proofs.Truths.{run-says-true}
use Rattle.flow_commands.proofs.request.run_request.Goals as goal

pub returns-in-Span-clause-ran : goal.returns-in-Span-clause-ran
returns-in-Span-clause-ran g c = rw c.in-Span.is (rw c.as_slice.ensures.value at c.run.ensures.ran)

pub returns-in-Span-clause-proved : goal.returns-in-Span-clause-proved
returns-in-Span-clause-proved g c = run-says-true c.args.request.now (returns-in-Span-clause-ran g c)

pub returns-in-Neh-clause-ran : goal.returns-in-Neh-clause-ran
returns-in-Neh-clause-ran g c = rw c.in-Neh.is c.run-in-Neh.ensures.ran

pub returns-in-Neh-clause-proved : goal.returns-in-Neh-clause-proved
returns-in-Neh-clause-proved g c = run-says-true c.args.request.now (returns-in-Neh-clause-ran g c)

pub returns-in-Solve-clause-ran : goal.returns-in-Solve-clause-ran
returns-in-Solve-clause-ran g c = rw c.in-Solve.is c.solve_over.ensures.ran

pub returns-in-Solve-clause-proved : goal.returns-in-Solve-clause-proved
returns-in-Solve-clause-proved g c = run-says-true c.args.request.now (returns-in-Solve-clause-ran g c)

pub returns-in-Improve-clause-ran : goal.returns-in-Improve-clause-ran
returns-in-Improve-clause-ran g c = rw c.in-Improve.is c.run-in-Improve.ensures.ran

pub returns-in-Improve-clause-proved : goal.returns-in-Improve-clause-proved
returns-in-Improve-clause-proved g c = run-says-true c.args.request.now (returns-in-Improve-clause-ran g c)

pub returns-in-Certify-clause-ran : goal.returns-in-Certify-clause-ran
returns-in-Certify-clause-ran g c = rw c.in-Certify.is c.run-in-Certify.ensures.ran

pub returns-in-Certify-clause-proved : goal.returns-in-Certify-clause-proved
returns-in-Certify-clause-proved g c = run-says-true c.args.request.now (returns-in-Certify-clause-ran g c)

pub returns-in-Check-clause-ran : goal.returns-in-Check-clause-ran
returns-in-Check-clause-ran g c = rw c.in-Check.is c.run-in-Check.ensures.ran

pub returns-in-Check-clause-proved : goal.returns-in-Check-clause-proved
returns-in-Check-clause-proved g c = run-says-true c.args.request.now (returns-in-Check-clause-ran g c)

pub returns-in-Signs-clause-ran : goal.returns-in-Signs-clause-ran
returns-in-Signs-clause-ran g c = rw c.in-Signs.is c.run-in-Signs.ensures.ran

pub returns-in-Signs-clause-proved : goal.returns-in-Signs-clause-proved
returns-in-Signs-clause-proved g c = run-says-true c.args.request.now (returns-in-Signs-clause-ran g c)

pub returns-in-Schedule-clause-ran : goal.returns-in-Schedule-clause-ran
returns-in-Schedule-clause-ran g c = rw c.in-Schedule.is c.run-in-Schedule.ensures.ran

pub returns-in-Schedule-clause-proved : goal.returns-in-Schedule-clause-proved
returns-in-Schedule-clause-proved g c = run-says-true c.args.request.now (returns-in-Schedule-clause-ran g c)
