-- The limits, as `flowshop_limits` gives them.
use Rattle.flow_limits.specs.Limits.{most_jobs, most_machines, greatest_time, greatest_number, greatest_seed}
use Rattle.flow_limits.specs.Limits.{greatest_depth, least_version, greatest_version, most_workers, most_prefixes}
use Rattle.flow_limits.specs.Limits.{greatest_budget, most_text, most_certificate, most_rounds, most_width, most_work}
use Rattle.flow_limits.specs.Limits.{most_directions}
use Rattle.flow_certify.specs.Signs.{most_counted}
use Rattle.flow_check.specs.Counted.{most_nodes}
use Rattle.flow_text.specs.StartText.{greatest_job_number}
use Rattle.flow_c.specs.Certify.{most_beside}
use Rattle.flow_c.specs.declared.limits.LimitNumbers.{LimitNumbers}

-- all limits
abbrev pub all_limits : LimitNumbers
all_limits = record {
  max_jobs = most_jobs;
  max_machines = most_machines;
  max_time = greatest_time;
  max_number = greatest_number;
  max_job = greatest_job_number;
  max_seed = greatest_seed;
  max_width = most_width;
  max_rounds = most_rounds;
  max_work = most_work;
  max_directions = most_directions;
  max_depth = greatest_depth;
  max_prefixes = most_prefixes;
  max_budget = greatest_budget;
  min_version = least_version;
  max_version = greatest_version;
  max_workers = most_workers;
  max_text = most_text;
  max_certificate = most_certificate;
  max_beside = most_beside;
  max_nodes = most_nodes;
  max_counted = most_counted;
}
