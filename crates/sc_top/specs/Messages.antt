-- The names and the sentences of codes (MS-ERREF, "Win32 Error Codes").
use Rattle.std.specs.Prelude.{ℕ, ◌==◌, ◌++◌, nat_lt, List, codes, if◌then◌else◌}
use Rattle.scm_model.specs.declared.codes.TheConstants.{ERROR_ACCESS_DENIED, ERROR_CANTWRITE, ERROR_CIRCULAR_DEPENDENCY}
use Rattle.scm_model.specs.declared.codes.TheConstants.{ERROR_DATABASE_DOES_NOT_EXIST, ERROR_DEPENDENT_SERVICES_RUNNING}
use Rattle.scm_model.specs.declared.codes.TheConstants.{ERROR_DUPLICATE_SERVICE_NAME, ERROR_FILE_NOT_FOUND, ERROR_GEN_FAILURE}
use Rattle.scm_model.specs.declared.codes.TheConstants.{ERROR_INSUFFICIENT_BUFFER, ERROR_INVALID_DATA, ERROR_INVALID_HANDLE}
use Rattle.scm_model.specs.declared.codes.TheConstants.{ERROR_INVALID_LEVEL, ERROR_INVALID_NAME, ERROR_INVALID_PARAMETER}
use Rattle.scm_model.specs.declared.codes.TheConstants.{ERROR_INVALID_SERVICE_ACCOUNT, ERROR_INVALID_SERVICE_CONTROL}
use Rattle.scm_model.specs.declared.codes.TheConstants.{ERROR_INVALID_SERVICE_LOCK, ERROR_MORE_DATA, ERROR_NOT_ENOUGH_MEMORY}
use Rattle.scm_model.specs.declared.codes.TheConstants.{ERROR_NOT_ENOUGH_QUOTA, ERROR_PATH_NOT_FOUND, ERROR_PROCESS_ABORTED}
use Rattle.scm_model.specs.declared.codes.TheConstants.{ERROR_SERVICE_ALREADY_RUNNING, ERROR_SERVICE_CANNOT_ACCEPT_CTRL}
use Rattle.scm_model.specs.declared.codes.TheConstants.{ERROR_SERVICE_DATABASE_LOCKED, ERROR_SERVICE_DEPENDENCY_DELETED}
use Rattle.scm_model.specs.declared.codes.TheConstants.{ERROR_SERVICE_DEPENDENCY_FAIL, ERROR_SERVICE_DISABLED, ERROR_SERVICE_DOES_NOT_EXIST}
use Rattle.scm_model.specs.declared.codes.TheConstants.{ERROR_SERVICE_EXISTS, ERROR_SERVICE_MARKED_FOR_DELETE, ERROR_SERVICE_NEVER_STARTED}
use Rattle.scm_model.specs.declared.codes.TheConstants.{ERROR_SERVICE_NOT_ACTIVE, ERROR_SERVICE_NO_THREAD, ERROR_SERVICE_REQUEST_TIMEOUT}
use Rattle.scm_model.specs.declared.codes.TheConstants.{ERROR_SERVICE_SPECIFIC_ERROR}

abbrev pub unknown_message : List ℕ
unknown_message = codes "is no code that sc has a sentence for"

abbrev pub system_message : ℕ → List ℕ
system_message code =
    if code == ERROR_FILE_NOT_FOUND then codes "ERROR_FILE_NOT_FOUND: The system cannot find the file specified."
    else if code == ERROR_PATH_NOT_FOUND then codes "ERROR_PATH_NOT_FOUND: The system cannot find the path specified."
    else if code == ERROR_ACCESS_DENIED then codes "ERROR_ACCESS_DENIED: Access is denied."
    else if code == ERROR_INVALID_HANDLE then codes "ERROR_INVALID_HANDLE: The handle is invalid."
    else if code == ERROR_NOT_ENOUGH_MEMORY then codes "ERROR_NOT_ENOUGH_MEMORY: Not enough storage is available to process this command."
    else if code == ERROR_INVALID_DATA then codes "ERROR_INVALID_DATA: The data is invalid."
    else if code == ERROR_GEN_FAILURE then codes "ERROR_GEN_FAILURE: A device attached to the system is not functioning."
    else if code == ERROR_INVALID_PARAMETER then codes "ERROR_INVALID_PARAMETER: The parameter is incorrect."
    else if code == ERROR_INSUFFICIENT_BUFFER then codes "ERROR_INSUFFICIENT_BUFFER: The data area passed to a system call is too small."
    else if code == ERROR_INVALID_NAME then codes "ERROR_INVALID_NAME: The filename, directory name, or volume label syntax is incorrect."
    else if code == ERROR_INVALID_LEVEL then codes "ERROR_INVALID_LEVEL: The system call level is not correct."
    else if code == ERROR_MORE_DATA then codes "ERROR_MORE_DATA: More data is available."
    else unknown_message

abbrev pub start_message : ℕ → List ℕ
start_message code =
    if code == ERROR_CANTWRITE then codes "ERROR_CANTWRITE: The configuration registry key could not be written."
    else if code == ERROR_DEPENDENT_SERVICES_RUNNING
    then codes "ERROR_DEPENDENT_SERVICES_RUNNING: A stop control has been sent to a service that other running services are dependent on."
    else if code == ERROR_INVALID_SERVICE_CONTROL
    then codes "ERROR_INVALID_SERVICE_CONTROL: The requested control is not valid for this service."
    else if code == ERROR_SERVICE_REQUEST_TIMEOUT
    then codes "ERROR_SERVICE_REQUEST_TIMEOUT: The service did not respond to the start or control request in a timely fashion."
    else if code == ERROR_SERVICE_NO_THREAD then codes "ERROR_SERVICE_NO_THREAD: A thread could not be created for the service."
    else if code == ERROR_SERVICE_DATABASE_LOCKED then codes "ERROR_SERVICE_DATABASE_LOCKED: The service database is locked."
    else if code == ERROR_SERVICE_ALREADY_RUNNING then codes "ERROR_SERVICE_ALREADY_RUNNING: An instance of the service is already running."
    else if code == ERROR_INVALID_SERVICE_ACCOUNT
    then codes "ERROR_INVALID_SERVICE_ACCOUNT: The account name is invalid or does not exist, "
    ++ codes "or the password is invalid for the account name specified."
    else if code == ERROR_SERVICE_DISABLED
    then codes "ERROR_SERVICE_DISABLED: The service cannot be started, either because it is disabled "
    ++ codes "or because it has no enabled devices associated with it."
    else if code == ERROR_CIRCULAR_DEPENDENCY then codes "ERROR_CIRCULAR_DEPENDENCY: Circular service dependency was specified."
    else if code == ERROR_SERVICE_DOES_NOT_EXIST
    then codes "ERROR_SERVICE_DOES_NOT_EXIST: The specified service does not exist as an installed service."
    else if code == ERROR_SERVICE_CANNOT_ACCEPT_CTRL
    then codes "ERROR_SERVICE_CANNOT_ACCEPT_CTRL: The service cannot accept control messages at this time."
    else unknown_message

abbrev pub service_message : ℕ → List ℕ
service_message code =
    if code == ERROR_SERVICE_NOT_ACTIVE then codes "ERROR_SERVICE_NOT_ACTIVE: The service has not been started."
    else if code == ERROR_DATABASE_DOES_NOT_EXIST then codes "ERROR_DATABASE_DOES_NOT_EXIST: The database specified does not exist."
    else if code == ERROR_SERVICE_SPECIFIC_ERROR
    then codes "ERROR_SERVICE_SPECIFIC_ERROR: The service has returned a service-specific error code."
    else if code == ERROR_PROCESS_ABORTED then codes "ERROR_PROCESS_ABORTED: The process terminated unexpectedly."
    else if code == ERROR_SERVICE_DEPENDENCY_FAIL
    then codes "ERROR_SERVICE_DEPENDENCY_FAIL: The dependency service or group failed to start."
    else if code == ERROR_INVALID_SERVICE_LOCK then codes "ERROR_INVALID_SERVICE_LOCK: The specified service database lock is invalid."
    else if code == ERROR_SERVICE_MARKED_FOR_DELETE
    then codes "ERROR_SERVICE_MARKED_FOR_DELETE: The specified service has been marked for deletion."
    else if code == ERROR_SERVICE_EXISTS then codes "ERROR_SERVICE_EXISTS: The specified service already exists."
    else if code == ERROR_SERVICE_DEPENDENCY_DELETED
    then codes "ERROR_SERVICE_DEPENDENCY_DELETED: The dependency service does not exist or has been marked for deletion."
    else if code == ERROR_SERVICE_NEVER_STARTED
    then codes "ERROR_SERVICE_NEVER_STARTED: No attempts to start the service have been made since the last boot."
    else if code == ERROR_DUPLICATE_SERVICE_NAME
    then codes "ERROR_DUPLICATE_SERVICE_NAME: The name is already in use as either a service name or a service display name."
    else if code == ERROR_NOT_ENOUGH_QUOTA then codes "ERROR_NOT_ENOUGH_QUOTA: Not enough quota is available to process this command."
    else unknown_message

-- the name of a code and its sentence
abbrev pub message : ℕ → List ℕ
message code = if nat_lt code ERROR_CANTWRITE then system_message code
    else if nat_lt code ERROR_SERVICE_NOT_ACTIVE then start_message code
    else service_message code
