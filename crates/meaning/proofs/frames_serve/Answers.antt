use Rattle.meaning.proofs.Serves.{frames_serve_lem}
use Rattle.meaning.proofs.frames_serve.Goals as goal

pub returns : goal.returns
returns c = frames_serve_lem
