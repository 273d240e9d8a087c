use Rattle.std.proofs.Common.{refl}
use Rattle.multi_hash.proofs.multi.MultiKeySettings.set_nflip.Goals as goal

pub set_nflip-requires : goal.set_nflip-requires
set_nflip-requires g c = c.requires c.args.self.now.b refl
