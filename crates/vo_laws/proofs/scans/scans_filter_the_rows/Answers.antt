use Rattle.vo_laws.proofs.WholeScans.{whole_scan, part_scan}
use Rattle.vo_laws.proofs.scans.scans_filter_the_rows.Goals as goal

pub returns : goal.returns
returns c = record { whole = whole_scan; part = part_scan }
