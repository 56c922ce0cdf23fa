use Rattle.std.proofs.Common.{◌∙◌}
use Rattle.embed.specs.Play.{ranks_of}
use Rattle.embed.proofs.Ranks.{ranks_laid}
use Rattle.embed.proofs.play.ranks_of.Goals as goal

pub returns : goal.returns
unfolding ranks_of
returns c = c.lay.ensures ∙ ranks_laid c.args.ranks.now 32
