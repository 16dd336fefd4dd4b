use Rattle.stored.proofs.Laws.Bytes.Vectors.{block-loaded}
use Rattle.machine.proofs.run.steps.bits.Goals as goal

pub returns : goal.returns
returns c = block-loaded c.args.bytes.now c.args.base c.args.from c.requires c.type_inv.bytes
