use Rattle.esx_program.proofs.WordLemmas.{no_help_of_its_own, one_more, last_one}
use Rattle.esx_program.proofs.words.program.Goals as goal

pub returns : goal.returns
returns c =
    let none = no_help_of_its_own c.new.result c.disable_help_subcommand.result _ c.disable_help_subcommand.ensures c.new.ensures.app in
    let with_console = one_more c.disable_help_subcommand.result c.in_ok-console_word.field-0 c.in_ok-subcommand.field-0 _ _
    c.in_ok-subcommand.ensures c.in_ok-console_word.ensures.local none c.in_ok-console_word.ensures.app in
    let with_record = one_more c.in_ok-subcommand.field-0 c.in_ok-word_with_file.field-0 c.in_ok-subcommand-2.field-0 _ _
    c.in_ok-subcommand-2.ensures c.in_ok-word_with_file.ensures.local with_console c.in_ok-word_with_file.ensures.app in
    let with_replay = one_more c.in_ok-subcommand-2.field-0 c.in_ok-word_with_file-2.field-0 c.in_ok-subcommand-3.field-0 _ _
    c.in_ok-subcommand-3.ensures c.in_ok-word_with_file-2.ensures.local with_record c.in_ok-word_with_file-2.ensures.app in
    let with_check = one_more c.in_ok-subcommand-3.field-0 c.in_ok-word_with_file-3.field-0 c.in_ok-subcommand-4.field-0 _ _
    c.in_ok-subcommand-4.ensures c.in_ok-word_with_file-3.ensures.local with_replay c.in_ok-word_with_file-3.ensures.app in
    let with_diff = one_more c.in_ok-subcommand-4.field-0 c.in_ok-word_with_file-4.field-0 c.in_ok-subcommand-5.field-0 _ _
    c.in_ok-subcommand-5.ensures c.in_ok-word_with_file-4.ensures.local with_check c.in_ok-word_with_file-4.ensures.app in
    let with_migrate = one_more c.in_ok-subcommand-5.field-0 c.in_ok-word_with_file-5.field-0 c.in_ok-subcommand-6.field-0 _ _
    c.in_ok-subcommand-6.ensures c.in_ok-word_with_file-5.ensures.local with_diff c.in_ok-word_with_file-5.ensures.app in
    let with_report = one_more c.in_ok-subcommand-6.field-0 c.in_ok-report_word.field-0 c.in_ok-subcommand-7.field-0 _ _
    c.in_ok-subcommand-7.ensures c.in_ok-report_word.ensures.local with_migrate c.in_ok-report_word.ensures.app in
    let with_why = one_more c.in_ok-subcommand-7.field-0 c.in_ok-why_word.field-0 c.in_ok-subcommand-8.field-0 _ _
    c.in_ok-subcommand-8.ensures c.in_ok-why_word.ensures.local with_report c.in_ok-why_word.ensures.app in
    let with_help = one_more c.in_ok-subcommand-8.field-0 c.new-2.result c.in_ok-subcommand-9.field-0 _ _
    c.in_ok-subcommand-9.ensures c.new-2.ensures.local with_why c.new-2.ensures.app in
    last_one c.subcommand-10.result c.in_ok-subcommand-9.field-0 c.in_ok-word_with_file-6.field-0 _ _
    c.subcommand-10.ensures c.in_ok-word_with_file-6.ensures.local with_help c.in_ok-word_with_file-6.ensures.app
