-- The digest of a tree is of 32 bytes.
use Rattle.std.proofs.Common.{◌≡◌, length}
use Rattle.sha2.proofs.Facts256.{length-sha256}
use Rattle.vo_spec.specs.Parts.{stub, leaf, inner, leaf_bytes, inner_bytes}
use Rattle.vo_spec.specs.Trees.{RowTree, row_family, digest}
use Rattle.vo_spec.specs.Fits.{FitsPart}

pub digest_length : (t : RowTree) → FitsPart t → length (digest t) ≡ 32
digest_length (stub d) fits = fits
digest_length (leaf es) fits = length-sha256 (leaf_bytes row_family es)
digest_length (inner ss ps) fits = length-sha256 (inner_bytes row_family ss ps)
