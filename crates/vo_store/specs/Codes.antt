-- How the logic stores the state of a store.
use Rattle.std.specs.Prelude.{ℕ, List, Option, refl}
use Rattle.std.specs.Coded.{Coded, code_by, coded_ℕ, coded_list, coded_option, coded×}
use Rattle.vo_spec.specs.Honest.{Stored}
use Rattle.stored_tables.specs.Codes.{coded_tables}
use Rattle.vo_store.specs.declared.signed_record.SignedRecord.{SignedRecord}
use Rattle.vo_store.specs.declared.kept_version.KeptVersion.{KeptVersion}
use Rattle.vo_store.specs.contracts.signed_record.SignedRecord as signed
use Rattle.vo_store.specs.contracts.kept_version.KeptVersion as kept
use Rattle.vo_store.specs.StoreState.{StoreState}

abbrev pub coded_store : Coded StoreState
coded_store =
    code_by
    (List ℕ × (List KeptVersion × (Option SignedRecord × (List Stored × Option (List Stored)))))
    (coded× (coded_list coded_ℕ) (coded× (coded_list kept.the_row.coded)
    (coded× (coded_option signed.the_row.coded) (coded× coded_tables (coded_option coded_tables)))))
    (λ s. (s.key, (s.earlier, (s.installed, (s.tables, s.pending)))))
    (λ p. record {
      key = p.0;
      earlier = p.1.0;
      installed = p.1.1.0;
      tables = p.1.1.1.0;
      pending = p.1.1.1.1;
    })
    (λ _. refl)
