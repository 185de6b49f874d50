-- The words that name a task, and how many words each task takes after its own.
use Rattle.std.specs.Prelude.{ℕ, cond, List, Some, None, codes, Option}
use Rattle.std.specs.Str.{bytes_eq}
use Rattle.tasks.specs.declared.task.Task.{Task}
use Rattle.tasks.specs.declared.task.Task.TheVariants.{Help, Version, Names}

abbrev pub task_named : List ℕ → Option Task
task_named word =
    cond (bytes_eq word (codes "--help")) (Some Help)
    (cond (bytes_eq word (codes "--version")) (Some Version) (cond (bytes_eq word (codes "names")) (Some Names) None))

abbrev pub operands_of : Task → ℕ
operands_of Help = 0
operands_of Version = 0
operands_of Names = 1
