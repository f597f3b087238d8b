-- Connections that are kept in memory.
use Rattle.std.specs.Prelude.{ℕ, drop, map}
use Rattle.outside.specs.ConnectionModel.{ConnectionModel}
use Rattle.outside.specs.declared.mem_net.MemNet.{MemNet}

abbrev pub wire_of : {P : Type 0} → MemNet P → ConnectionModel
wire_of net = record {
  stands = net.stands;
  coming = drop net.taken net.coming.items;
  sent = net.sent.items;
  queue = map (λ bytes. bytes.items) net.queue.items;
  past = map (λ bytes. bytes.items) net.past.items;
}

abbrev pub misses_of : {P : Type 0} → MemNet P → ℕ
misses_of net = net.misses

abbrev pub plan_of : {P : Type 0} → MemNet P → P
plan_of net = net.failures

-- how many bytes one get takes at most
abbrev pub most_of : {P : Type 0} → MemNet P → ℕ
most_of net = net.most
