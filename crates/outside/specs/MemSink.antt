-- Output that is kept in memory.
use Rattle.std.specs.Prelude.{ℕ, List}
use Rattle.outside.specs.declared.mem_sink.MemSink.{MemSink}

abbrev pub written_of : {P : Type 0} → MemSink P → List ℕ
written_of sink = sink.written.items

abbrev pub plan_of : {P : Type 0} → MemSink P → P
plan_of sink = sink.failures
