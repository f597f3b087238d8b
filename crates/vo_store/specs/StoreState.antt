-- A store as contracts see it.
use Rattle.std.specs.Prelude.{ℕ, ◌-◌, List, [], ◌∷◌, ◌++◌, length, drop, Option, Some, None}
use Rattle.vo_spec.specs.Honest.{Stored}
use Rattle.vo_store.specs.declared.signed_record.SignedRecord.{SignedRecord}
use Rattle.vo_store.specs.declared.kept_version.KeptVersion.{KeptVersion}

pub record StoreState : Type 0 where
  pub key : List ℕ
  -- the versions that are kept before the installed one, oldest first
  pub earlier : List KeptVersion
  -- the record of the version that is installed, if one is, and that version's tables, as trees
  pub installed : Option SignedRecord
  pub tables : List Stored
  -- the trees of the version that is proposed, if one is
  pub pending : Option (List Stored)

-- in a new store version 0 is proposed
abbrev pub new_store : List ℕ → StoreState
new_store key = record { key = key; earlier = []; installed = None; tables = []; pending = Some [] }

-- the store once a version of these trees is proposed
abbrev pub with_pending : List Stored → StoreState → StoreState
with_pending trees s = record {
  key = s.key;
  earlier = s.earlier;
  installed = s.installed;
  tables = s.tables;
  pending = Some trees;
}

-- how many versions are kept before the installed one, at most
abbrev pub max_earlier : ℕ
max_earlier = 63

-- the first version that is kept where this one is installed
abbrev pub oldest_of : ℕ → ℕ
oldest_of newest = newest - max_earlier

-- of versions in their order the last that are kept
abbrev pub latest : List KeptVersion → List KeptVersion
latest versions = drop (length versions - max_earlier) versions

-- the earlier versions once another is installed: that which was installed is the last of them
abbrev pub earlier_behind : Option SignedRecord → List Stored → List KeptVersion → List KeptVersion
earlier_behind None tables earlier = earlier
earlier_behind (Some installed) tables earlier =
    latest (earlier ++ record { signed = installed; tables = tables } ∷ [])

-- the store once a version of these trees is installed
abbrev pub with_installed : SignedRecord → List Stored → StoreState → StoreState
with_installed installed trees s = record {
  key = s.key;
  earlier = earlier_behind s.installed s.tables s.earlier;
  installed = Some installed;
  tables = trees;
  pending = None;
}
