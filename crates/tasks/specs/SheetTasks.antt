-- The words that name a task on a sheet or its code, and with how many words after its own each can be done: a name
-- list and a sheet, and where the task has them its flags, its settings or a file; a file alone, or with names, for a list.
use Rattle.std.specs.Prelude.{ℕ, Bool, cond, ◌||◌, List, Some, None, codes, Option, ◌==◌, nat_le}
use Rattle.std.specs.Str.{bytes_eq}
use Rattle.tasks.specs.declared.sheet_task.SheetTask.{SheetTask}
use Rattle.tasks.specs.declared.sheet_task.SheetTask.TheVariants.{Check, Screen, Compile, List as Listing}

abbrev pub sheet_task_named : List ℕ → Option SheetTask
sheet_task_named word =
    cond (bytes_eq word (codes "check")) (Some Check)
    (cond (bytes_eq word (codes "screen")) (Some Screen)
    (cond (bytes_eq word (codes "compile")) (Some Compile) (cond (bytes_eq word (codes "list")) (Some Listing) None)))

abbrev pub takes_of : SheetTask → ℕ → Bool
takes_of Check n = n == 2 || n == 3
takes_of Screen n = nat_le 2 n
takes_of Compile n = n == 3
takes_of Listing n = n == 1 || n == 3
