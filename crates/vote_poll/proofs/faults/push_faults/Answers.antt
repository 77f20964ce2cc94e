use Rattle.vote_poll.specs.PollFaults.{of_contents}
use Rattle.vote_poll.proofs.Adding.{add_then, judged, on_last}
use Rattle.vote_poll.proofs.faults.push_faults.Goals as goal

pub returns : goal.returns
unfolding of_contents
returns c =
    let title = judged _ _ _ _ _ c.is_title_right.ensures c.in_ok-push_unless.ensures in
    let option_count = judged _ _ _ _ _ c.is_option_count_right.ensures c.in_ok-push_unless-2.ensures in
    let ratios = judged _ _ _ _ _ c.are_ratios_right.ensures c.in_ok-push_unless-3.ensures in
    let quorum = judged _ _ _ _ _ c.is_quorum_right.ensures c.in_ok-push_unless-4.ensures in
    let roll_size = judged _ _ _ _ _ c.is_roll_size_right.ensures c.in_ok-push_unless-5.ensures in
    let last_envelope = judged _ _ _ _ _ c.is_last_envelope_right.ensures c.in_ok-push_unless-6.ensures in
    let two = add_then _ _ _ _ _ title option_count in
    let three = add_then _ _ _ _ _ two c.in_ok-push_option_names.ensures in
    let four = add_then _ _ _ _ _ three ratios in
    let five = add_then _ _ _ _ _ four quorum in
    let six = add_then _ _ _ _ _ five roll_size in
    let seven = add_then _ _ _ _ _ six c.in_ok-push_voter_names.ensures in
    let eight = add_then _ _ _ _ _ seven last_envelope in
    on_last c.push_unless-7.result _ _ _ _ _ _ _ eight c.is_wording_right.ensures c.push_unless-7.ensures
