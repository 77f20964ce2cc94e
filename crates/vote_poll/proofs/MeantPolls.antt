-- A poll that a text means keeps the limits of a poll.
use Rattle.std.proofs.Common.{◌≡◌, List, [], ◌∷◌, Ok, Err, Result, refl, subst, sym}
use Rattle.toml.specs.Data.{Members}
use Rattle.vote_poll_keys.specs.KeyFaults.{found_in}
use Rattle.vote_poll_keys.specs.Keys.{◌>>=◌, document}
use Rattle.vote_poll_keys.specs.declared.fault.PollFault.{PollFault}
use Rattle.vote_poll.specs.Meant.{PollsKeepTheLimits}
use Rattle.vote_poll.specs.PollContent.{IsPoll, PollContent}
use Rattle.vote_poll.specs.PollFaults.{faults_in}
use Rattle.vote_poll.specs.PollFile.{first_or, poll_in, poll_in_table, poll_of}
use Rattle.vote_poll.proofs.Assembly.{whole_if_judged}

same_ok : (a b : PollContent) → first_or [] a ≡ Ok b → a ≡ b
same_ok a b is = cc

in_order : (table : Members) (poll : PollContent) (faults : List PollFault) → faults_in (Ok table) ≡ faults → first_or faults (poll_of (found_in table)) ≡ Ok poll → IsPoll poll
in_order table poll [] none is =
    subst IsPoll (same_ok (poll_of (found_in table)) poll is) (whole_if_judged table (found_in table) (record { found = refl; all = sym none })).poll
in_order table poll (e ∷ faults) some is = cc

in_file : (m : Result Members PollFault) (poll : PollContent) → m >>= poll_in_table ≡ Ok poll → IsPoll poll
in_file (Ok table) poll is = in_order table poll (faults_in (Ok table)) refl is
in_file (Err e) poll is = cc

pub keep_the_limits : PollsKeepTheLimits
unfolding poll_in
keep_the_limits text poll is = in_file (document text) poll is
