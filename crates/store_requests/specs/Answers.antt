-- What the answers to an owner's requests say.
use Rattle.std.specs.Prelude.{ℕ, ◌+◌, List, length, Option, Some, None, Result, Ok, Err}
use Rattle.vo_spec.specs.declared.records.Record.{Record}
use Rattle.vo_spec.specs.Firsts.{and_then}
use Rattle.link_frames.specs.Frames.{Coming}
use Rattle.connections.specs.declared.wire_fault.WireFault.{WireFault}
use Rattle.connections.specs.declared.wire_fault.WireFault.TheVariants.{BadFrame}
use Rattle.connections.specs.Requesting.{answer_in}
use Rattle.store_requests.specs.Bodies.{standing_in, version_in}

-- a body that is none of its kind is a bad frame
abbrev pub or_bad_frame : {X : Type 0} → List ℕ → Option X → Result X WireFault
or_bad_frame body None = Err (BadFrame (length body + 1))
or_bad_frame body (Some found) = Ok found

-- the record that the store stands at, if it has installed a version
abbrev pub standing_answer : Coming → Result (Option Record) WireFault
standing_answer first = and_then (λ body. or_bad_frame body (standing_in body)) (answer_in first)

-- the version that was installed
abbrev pub version_answer : Coming → Result ℕ WireFault
version_answer first = and_then (λ body. or_bad_frame body (version_in body)) (answer_in first)
