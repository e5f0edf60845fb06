-- An actions body, action by action. Assumes nothing.
use Rattle.std.specs.Prelude.{ℕ, ◌*◌, List}
use Rattle.encoding.specs.Bytes.{part}
use Rattle.job.specs.Job.{Action}
use Rattle.jobfile.specs.File.{action_size, action_of}

-- action i of the body, in a job with so many pools and stores
abbrev pub action_at : List ℕ → ℕ → ℕ → ℕ → Action
action_at body pools stores i =
    action_of pools stores (part body (i * action_size pools stores) (action_size pools stores))
