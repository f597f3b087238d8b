-- What comes before the trees of a reply.
use Rattle.std.specs.Prelude.{ℕ, ◌+◌, List, length}
use Rattle.vo_spec.specs.declared.records.Record.{Record}
use Rattle.vo_spec.specs.declared.records.Catalog.{Catalog}
use Rattle.vo_spec.specs.Records.{catalog_bytes}

pub record ReplyHead : Type 0 where
  pub rec : Record
  pub signature : List ℕ
  pub catalog : Catalog

-- how many bytes it has: the first word and the record, the signature and the catalog, and their
-- lengths
abbrev pub head_size : ReplyHead → ℕ
head_size head = 72 + length head.signature + length (catalog_bytes head.catalog)
