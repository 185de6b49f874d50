-- A stop as the fault record that it is told by: in the run layer, for its cause, with its place as the figure.
use Rattle.std.specs.Prelude.{◌≡◌, ℕ}
use Rattle.faults.specs.declared.causes.Layer.TheVariants as layer
use Rattle.faults.specs.declared.causes.RunCause.{RunCause}
use Rattle.faults.specs.declared.fault.Fault.{Fault}
use Rattle.faults.specs.Numbers.{fault_of}
use Rattle.screen.specs.declared.halt.Stop.{Stop}

abbrev pub stop_fault : RunCause → ℕ → Fault
stop_fault x q = fault_of (layer.Run x) q

abbrev pub IsFaultOf : Stop → Fault → Type 0
IsFaultOf s f = f ≡ stop_fault s.cause s.place
