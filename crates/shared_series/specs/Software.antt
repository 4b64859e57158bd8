-- Our software with the packing that keeps one copy of equal put data as its APLX packer: the definitions that the promises of the code cite.
use Rattle.srom.specs.Load.{srom_load}
use Rattle.aplx.specs.Load.{aplx_load}
use Rattle.srom_pack.specs.Image.{pack_srom}
use Rattle.series.specs.Software.{Software}
use Rattle.aplx_share.specs.SharedImage.{pack_shared}

abbrev pub sharing : Software
sharing = record { pack_srom = pack_srom; pack_aplx = pack_shared; load_srom = srom_load; load_aplx = aplx_load }
