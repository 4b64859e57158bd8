-- `conversion::convert::pack` meets its contract: each packing has its packer.
use Rattle.conversion.specs.Conversion.{pack_for}
use Rattle.conversion.proofs.convert.pack.Goals as goal

pub returns-in-Aplx : goal.returns-in-Aplx
unfolding pack_for
returns-in-Aplx c = simp c.in-Aplx.is (record { result_value = c.pack.ensures.result_value; output_after = c.pack.ensures.output_after })

pub returns-in-SharedAplx : goal.returns-in-SharedAplx
unfolding pack_for
returns-in-SharedAplx c = simp c.in-SharedAplx.is (record { result_value = c.pack-in-SharedAplx.ensures.result_value; output_after = c.pack-in-SharedAplx.ensures.output_after })

pub returns-in-Srom : goal.returns-in-Srom
unfolding pack_for
returns-in-Srom c = simp c.in-Srom.is (record { result_value = c.pack-in-Srom.ensures.result_value; output_after = c.pack-in-Srom.ensures.output_after })
