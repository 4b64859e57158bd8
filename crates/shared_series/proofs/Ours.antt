-- What holds of ours: of our software with the packing that keeps one copy of equal put data, of the check that the promise of `aplx_check`
-- cites, and of the reader that the promise of `aplx_read` cites.
use Rattle.aplx_check.specs.Check.{check}
use Rattle.aplx_read.specs.ReadBack.{read_back}
use Rattle.aplx_share.proofs.SharedImagePlain.{packed-plain}
use Rattle.shared_series.specs.Claims.{Claims}
use Rattle.shared_series.specs.Software.{sharing}
use Rattle.shared_series.proofs.Proved.Theorem as proof

pub ours : Claims sharing check read_back
ours = record {
  without-equal = λ plan h room. packed-plain plan room h;
  sized = proof.sized;
  laid_out = proof.laid_out;
  demand = proof.demand;
  checked = proof.checked;
  restored = proof.restored;
}
