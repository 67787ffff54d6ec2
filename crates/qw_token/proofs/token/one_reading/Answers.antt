use Rattle.qw_token.proofs.TokenRun.{AreTokens-unique, StopsAt-unique, AreTokens-no_stop}
use Rattle.qw_token.proofs.token.one_reading.Goals as goal

pub returns : goal.returns
returns c = record { tokens = AreTokens-unique; position = StopsAt-unique; either = AreTokens-no_stop }
