-- What a poll file says. The quorum is from section 4.2 of the Constitution, and the default option and the ratios are from A.5 of its
-- Appendix A. It is this project's own that a poll sets the multiple of Q, that envelopes can be late, and that a majority can be worded
-- in two ways.
use Rattle.std.specs.Prelude.{◌≡◌, ℕ, ◌+◌, ◌≤◌, List, length, Option, None, IfSome, unwrap_or, IsTrue}
use Rattle.std.specs.List.{All}
use Rattle.vote_poll.specs.Names.{first_bad}
use Rattle.vote_poll_text.specs.Names.{is_option_name, is_title, is_voter_name}
use Rattle.vote_poll.specs.Options.{at_option}
use Rattle.vote_poll.specs.declared.TheConstants.{MAX_OPTIONS, MAX_ELECTORS, MAX_RATIO, MAX_QUORUM_MULTIPLE}
use Rattle.vote_poll_text.specs.declared.lines.TheConstants.{MAX_LINES}
use Rattle.vote_poll.specs.declared.wording.Wording.{Wording}

-- The default option is the last option, and each other option has a ratio. If there is a last envelope, envelopes with a greater number are late.
pub record PollContent : Type 0 where
  pub title : List ℕ
  pub options : List (List ℕ)
  pub ratios : List ℕ
  pub quorum_multiple : ℕ
  pub roll : List (List ℕ)
  pub last_envelope : Option ℕ
  pub wording : Wording

-- the number of options, which is also the number of the default option
abbrev pub option_count : PollContent → ℕ
option_count poll = length poll.options

abbrev pub elector_count : PollContent → ℕ
elector_count poll = length poll.roll

-- The majority ratio of an option other than the default.
-- A.5.3: "If a supermajority of S:1 is required for A, its majority ratio is S; otherwise, its majority ratio is 1."
abbrev pub ratio_of : PollContent → ℕ → ℕ
ratio_of poll option = at_option poll.ratios option 0

-- the greatest number of an envelope in time: the poll's last envelope, or else `MAX_LINES`, the most lines of a file that is counted
abbrev pub last_in_time : PollContent → ℕ
last_in_time poll = unwrap_or poll.last_envelope MAX_LINES

-- the limits that each poll keeps
pub record IsPoll (poll : PollContent) : Type 0 where
  pub title : IsTrue (is_title poll.title)
  pub options_min : 2 ≤ option_count poll
  pub options_max : option_count poll ≤ MAX_OPTIONS
  pub option_names : first_bad is_option_name poll.options ≡ None
  pub ratio_count : length poll.ratios + 1 ≡ option_count poll
  pub ratio_range : All (λ ratio. (1 ≤ ratio) × (ratio ≤ MAX_RATIO)) poll.ratios
  pub quorum_range : poll.quorum_multiple ≤ MAX_QUORUM_MULTIPLE
  pub electors_min : 1 ≤ elector_count poll
  pub electors_max : elector_count poll ≤ MAX_ELECTORS
  pub voter_names : first_bad is_voter_name poll.roll ≡ None
  pub last_range : IfSome poll.last_envelope (λ last. last ≤ MAX_LINES)
