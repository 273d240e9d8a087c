use Rattle.std.proofs.Common.{refl}
use Rattle.hash_index.proofs.hash.HashKeySettings.set_nflip.Goals as goal

pub set_nflip-requires : goal.set_nflip-requires
set_nflip-requires g c = c.requires c.args.self.now.b refl
