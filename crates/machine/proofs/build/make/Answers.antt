use Rattle.stored.specs.Code.Passes.{made}
use Rattle.stored.proofs.Laws.Building.Build.{cleared-read-in, groups-read-in, parents-read-in}
use mathlib.Core.Path.{◌∙◌}
use Rattle.machine.proofs.build.make.Goals as goal

pub chain-requires : goal.chain-requires
chain-requires c = cleared-read-in c.args.part.now c.requires _ c.clear_tables.ensures

pub parents-requires : goal.parents-requires
parents-requires c =
    groups-read-in c.args.part.now c.requires _ _ _ c.clear_tables.ensures c.chain.ensures c.group.ensures

pub fails-requires : goal.fails-requires
fails-requires c =
    parents-read-in c.args.part.now c.requires _ _ _ _ c.clear_tables.ensures c.chain.ensures c.group.ensures c.parents.ensures

pub returns : goal.returns
unfolding made
returns c =
    c.write_start.ensures
    ∙ rw (
      c.write_masks.ensures,
      c.fails.ensures,
      c.parents.ensures,
      c.group.ensures,
      c.chain.ensures,
      c.clear_tables.ensures,
    )
