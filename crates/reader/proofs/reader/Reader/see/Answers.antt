use Rattle.reader.proofs.Seeing.{here-is}
use Rattle.reader.proofs.reader.Reader.see.Goals as goal

pub returns : goal.returns
returns c = here-is _ _ c.args.self.now.progress.position.at c.peek-token.result _ c.peek-token.ensures.value c.peek-token.ensures.placed c.lexeme_of.ensures
